-- `covered` meets its contract. Assumes nothing.
use mathlib.Core.Path.{◌≡◌}
use Prim.Native.Nat.{◌+◌, ◌<◌}
use native.Mathlib.Omega.{arith}
use lib.ListN.{length}
use Rattle.cover_first.specs.FirstLaws.{meta_at, flags_start, in_marked, covered_inside, covered_step}
use Rattle.cover_first.proofs.marking.covered.Goals.{After-meta-x}
use Rattle.cover_first.proofs.marking.covered.Goals as goal

inside : (c : After-meta-x) → let w = c.loop-i.w in let a = c.args in (a.groups + a.metas + c.group-g.result < length w) × (a.groups + c.meta-x.result < length w)
inside c =
    let lp = c.loop-i in
    rw (c.group-g.ensures.0, c.meta-x.ensures.0) (covered_inside c.args.groups c.args.metas c.args.edges.now.bytes.now c.args.edges.now.count c.args.w.now c.requires.1 lp.w lp.i (omega arith) c.requires.0 lp.invariant)

pub loop-i-init : goal.loop-i-init
loop-i-init c = flags_start c.args.groups c.args.metas (meta_at c.args.edges.now.bytes.now) (in_marked c.args.groups c.args.metas c.args.edges.now.bytes.now c.args.w.now) c.args.w.now c.requires.2

pub loop-i-preserved : goal.loop-i-preserved
loop-i-preserved c =
    let lp = c.loop-i in
    rw c.meta-x.ensures.0
    (covered_step c.args.groups c.args.metas c.args.edges.now.bytes.now c.args.edges.now.count c.args.w.now c.requires.1 lp.w lp.i (omega arith) c.requires.0 lp.invariant c.flagged.result (rw (← c.group-g.ensures.0, ← c.meta-x.ensures.0) c.flagged.ensures))

pub returns : goal.returns
returns c = let e : c.loop-i.i ≡ c.args.edges.now.count = omega arith in rw e at c.loop-i.invariant

pub group-g-requires : goal.group-g-requires
group-g-requires c = omega (arith, c.requires.3)

pub meta-x-requires : goal.meta-x-requires
meta-x-requires c = omega (arith, c.requires.3)

pub overflow_add-groups : goal.overflow_add-groups
overflow_add-groups c = omega (arith, (inside (goal.at.overflow_add-groups c).After-meta-x).0)

pub overflow_add-groups-in-loop-i : goal.overflow_add-groups-in-loop-i
overflow_add-groups-in-loop-i c = omega (arith, (inside (goal.at.overflow_add-groups-in-loop-i c).After-meta-x).0)

pub offset_bounds-w-groups : goal.offset_bounds-w-groups
offset_bounds-w-groups c = omega (arith, (inside (goal.at.offset_bounds-w-groups c).After-meta-x).0)

pub bounds-w-groups : goal.bounds-w-groups
bounds-w-groups c = (inside (goal.at.bounds-w-groups c).After-meta-x).0

pub overflow_add-groups-in-loop-i-2 : goal.overflow_add-groups-in-loop-i-2
overflow_add-groups-in-loop-i-2 c = omega (arith, (inside (goal.at.overflow_add-groups-in-loop-i-2 c).After-meta-x).1)

pub offset_bounds-w-groups-in-loop-i : goal.offset_bounds-w-groups-in-loop-i
offset_bounds-w-groups-in-loop-i c = omega (arith, (inside (goal.at.offset_bounds-w-groups-in-loop-i c).After-meta-x).1)

pub bounds-w-groups-in-loop-i : goal.bounds-w-groups-in-loop-i
bounds-w-groups-in-loop-i c = (inside (goal.at.bounds-w-groups-in-loop-i c).After-meta-x).1

pub overflow_add-w : goal.overflow_add-w
overflow_add-w c = omega (arith, (inside (goal.at.overflow_add-w c).After-meta-x).1)

pub offset_bounds-w-groups-in-loop-i-2 : goal.offset_bounds-w-groups-in-loop-i-2
offset_bounds-w-groups-in-loop-i-2 c = omega (arith, (inside (goal.at.offset_bounds-w-groups-in-loop-i-2 c).After-meta-x).1)

pub bounds-w-groups-in-loop-i-2 : goal.bounds-w-groups-in-loop-i-2
bounds-w-groups-in-loop-i-2 c = (inside (goal.at.bounds-w-groups-in-loop-i-2 c).After-meta-x).1

pub shape_of-w : goal.shape_of-w
shape_of-w c = c.loop-i.invariant.size
