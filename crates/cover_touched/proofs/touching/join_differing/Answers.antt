-- `join_differing` meets its contract. Assumes nothing.
use native.Mathlib.Omega.{arith}
use mathlib.Core.Path.{refl, ◌∙◌}
use Rattle.cover_joining.specs.Joining.{nodes}
use Rattle.cover_differing.specs.Walking.{differing}
use Rattle.cover_edges.specs.Records.{edges_in}
use Rattle.cover_touched.specs.TouchingLaws.{seeds-start, seeds-turn, seeds_end, linked_same}
use Rattle.cover_touched.proofs.touching.join_differing.Goals as goal

pub loop-g-init : goal.loop-g-init
loop-g-init c =
    let a = c.args in
    (refl, c.requires.groups_linked, seeds-start (differing (edges_in a.old.now) (edges_in a.new.now)) a.w.now a.metas (nodes a.groups a.metas) c.requires.forest)

pub join_if-requires : goal.join_if-requires
join_if-requires c =
    let lp = c.loop-g in
    record { groups_linked = lp.invariant.1; forest = lp.invariant.2.forest; g_lt_groups = omega arith }

pub loop-g-preserved : goal.loop-g-preserved
loop-g-preserved c =
    let a = c.args in
    let lp = c.loop-g in
    let call = c.join_if in
    let next = call.new.w in (
      call.auto.w ∙ lp.invariant.0,
      linked_same lp.w next call.auto.w call.ensures.rest lp.invariant.1,
      seeds-turn (differing (edges_in a.old.now) (edges_in a.new.now)) a.w.now lp.w next a.metas (nodes a.groups a.metas) lp.g lp.invariant.2 call.ensures,
    )

pub returns : goal.returns
returns c = let a = c.args in let lp = c.loop-g in seeds_end (differing (edges_in a.old.now) (edges_in a.new.now)) a.w.now lp.w a.metas (nodes a.groups a.metas) lp.g a.groups (omega arith) lp.invariant.2

pub shape_of-w : goal.shape_of-w
shape_of-w c = c.loop-g.invariant.0
