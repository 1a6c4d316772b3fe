-- `group_some` meets its contract: pairs are placed, grouped, and handed out. Assumes nothing.
use Prim.Native.Nat.{◌*◌, ◌/◌}
use native.Mathlib.Omega.{arith}
use mathlib.Core.Path.{◌≡◌}
use lib.ListN.{length}
use Rattle.protein_groups_spec.specs.ProteinGroups.{pairs_in}
use Rattle.protein_groups.specs.FinishLaws.{PairsStand, stands_at, tables_fit, stands_writable, placeable, peptides_stand, shown_stand, left-made}
use Rattle.std.proofs.Common.{rules}
use Rattle.protein_groups.proofs.grouping.group_some.Goals.{After-group_in-made, After-set_up}
use Rattle.protein_groups.proofs.grouping.group_some.Goals as goal

pub set_up-requires : goal.set_up-requires
set_up-requires c =
    let a = c.args in let p = c.requires in let r = p.0 in
    (r.few, rw c.keys_at-a.ensures (tables_fit a.asked.now.pairs.now a.asked.now.flags.now a.asked.now.peptides a.asked.now.proteins (length a.work.now) r p.1), λ i h. omega (arith, (r.inside i h).1, r.proteins-max))

stand : (c : After-set_up) → PairsStand c.args.asked.now.pairs.now c.args.asked.now.flags.now c.args.asked.now.peptides c.args.asked.now.proteins (length c.args.work.now) c.set_up.new.w
stand c = rw c.keys_at-a.ensures at c.set_up.ensures

pub group_in-made-requires : goal.group_in-made-requires
group_in-made-requires c = let a = c.args in let p = c.requires in placeable a.asked.now.pairs.now a.asked.now.flags.now a.asked.now.peptides a.asked.now.proteins (length a.work.now) p.0 p.1 c.set_up.new.w (stand (goal.at.group_in-made-requires c).After-set_up)

same : (c : After-group_in-made) → length c.group_in-made.new.w ≡ length c.args.work.now
same c = search rules

pub hand_out-requires : goal.hand_out-requires
hand_out-requires c =
    let a = c.args in let p = c.requires in let g = c.group_in-made in
    rw (c.keys_at-a.ensures, same (goal.at.hand_out-requires c).After-group_in-made) (stands_writable a.asked.now.pairs.now a.asked.now.flags.now a.asked.now.peptides a.asked.now.proteins (length a.work.now) p.0 p.1 g.new.w g.result.edges g.result.members g.ensures.0)

pub returns : goal.returns
returns c =
    let a = c.args in let q = c.requires in let g = c.group_in-made in let w = c.set_up.new.w in let o = c.hand_out in
    let p = g.ensures.1 a.asked.now.flags.now (pairs_in a.asked.now.pairs.now)
    (peptides_stand a.asked.now.pairs.now a.asked.now.flags.now a.asked.now.peptides a.asked.now.proteins (length a.work.now) q.0 q.1 w (stand (goal.at.returns c).After-set_up))
    (shown_stand a.asked.now.pairs.now a.asked.now.flags.now a.asked.now.peptides a.asked.now.proteins (length a.work.now) q.0 q.1 w (stand (goal.at.returns c).After-set_up)) in
    left-made a.asked.now.pairs.now a.asked.now.flags.now a.asked.now.peptides a.asked.now.proteins (length a.work.now) q.0 a.work.now a.edges.now a.members.now g.new.w o.new.w o.new.edges o.new.members
    (stands_at (2 * a.asked.now.proteins) c.keys_at-a.result (length a.asked.now.pairs.now / 8) g.result.edges g.result.members) g.result.groups g.result.metas c.answer.result
    (rw c.keys_at-a.ensures p.edges_are) p.members_are p.groups_are p.metas_are o.ensures (same (goal.at.returns c).After-group_in-made) c.answer.ensures
