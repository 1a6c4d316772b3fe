-- `cover_into` meets its contract. Assumes nothing.
use Prim.Native.Nat.{ℕ, ◌<◌}
use native.Mathlib.Omega.{arith}
use mathlib.Core.Path.{sym, ap, ◌∙◌}
use lib.ListN.{replicate}
use Rattle.lists.specs.Lists.{bit}
use Rattle.cover_spec.specs.Cover.{cover_list}
use Rattle.cover_spec.specs.ListedLaws.{listed_ext}
use Rattle.cover_walk.specs.RunLaws.{table_room, nothing_marked}
use Rattle.cover_walk.proofs.covering.cover_into.Goals as goal

pub returns-then-edges-eq0 : goal.returns-then-edges-eq0
returns-then-edges-eq0 c = record {
  marks_after = c.clear_marks.ensures ∙ ap (λ (n : ℕ). replicate n 0) c.requires.marks_len ∙ sym (nothing_marked c.args.edges.now.bytes.now c.args.edges.now.count c.args.groups c.if-edges-eq0.true);
  work_after = c.clear.ensures;
}

pub run-requires : goal.run-requires
run-requires c =
    let p : 0 < c.args.edges.now.count = omega (arith, c.if-edges-eq0.false) in
    let r = table_room c.requires p in
    (c.requires.inside, p, c.requires.few, r.fits, r.narrow)

pub returns : goal.returns
unfolding cover_list
returns c = record {
  marks_after = c.write_marks.ensures ∙ rw c.requires.marks_len (listed_ext c.args.groups _ _ (λ g h. ap bit (c.run.ensures g h)));
  work_after = c.clear-2.ensures ∙ ap (λ (n : ℕ). replicate n 0) c.run.auto.w;
}
