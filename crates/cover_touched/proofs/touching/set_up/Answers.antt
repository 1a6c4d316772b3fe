-- `set_up` meets its contract. Assumes nothing.
use Prim.Native.Nat.{◌+◌}
use native.Mathlib.Omega.{arith}
use mathlib.Core.Path.{◌∙◌}
use Rattle.cover_touched.specs.SetUpLaws.{cleared_at, field_inside, new_heads, set-up_linked}
use Rattle.cover_touched.proofs.touching.set_up.Goals as goal

pub link-requires : goal.link-requires
link-requires c =
    let a = c.args in
    let w₁ = c.clear.new.w in
    let r = c.requires.room in
    record {
      n_bound = (c.requires.old_few, omega arith);
      size_bound = (omega arith, omega (arith, c.clear.auto.w));
      by_index = field_inside a.old.now.bytes.now a.old.now.count a.groups a.metas c.requires.old_inside;
      by_index_2 = λ x l. cleared_at a.w.now w₁ (a.metas + (1 + a.groups + a.metas) + x) c.clear.ensures;
    }

pub link-requires-2 : goal.link-requires-2
link-requires-2 c =
    let a = c.args in
    let cleared = c.clear in
    let first = c.link in
    let r = c.requires.room in
    record {
      n_bound = (c.requires.new_few, omega arith);
      size_bound = (omega arith, omega (arith, cleared.auto.w, first.auto.w));
      by_index = field_inside a.new.now.bytes.now a.new.now.count a.groups a.metas c.requires.new_inside;
      by_index_2 = new_heads a.w.now cleared.new.w c.requires cleared.ensures first.new.w first.ensures.by_index_3;
    }

pub each_alone-requires : goal.each_alone-requires
each_alone-requires c =
    (omega (arith, c.requires.room, c.clear.auto.w, c.link.auto.w, c.link-2.auto.w), omega (arith, c.requires.groups-max, c.requires.metas-max))

pub returns : goal.returns
returns c =
    let cleared = c.clear in
    let first = c.link in
    let second = c.link-2 in
    let own = c.each_alone in
    record {
      groups_linked = set-up_linked c.args.w.now cleared.new.w c.requires cleared.ensures first.new.w first.ensures.by_index_3 second.new.w own.new.w (own.auto.w ∙ second.auto.w ∙ first.auto.w ∙ cleared.auto.w) first.ensures.chains second.ensures.chains second.ensures.by_index_3 own.ensures.rest;
      by_index = λ x l. own.ensures.put x (omega arith);
    }
