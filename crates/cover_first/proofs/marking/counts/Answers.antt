-- `counts` meets its contract. Assumes nothing.
use mathlib.Core.Path.{subst}
use mathlib.Core.Bool.{Bool, true, false, not}
use Prim.Native.Nat.{ℕ, ◌+◌, ◌≤◌, ◌<◌}
use native.Mathlib.Omega.{arith}
use lib.Dec.{eqb}
use lib.ListN.{length, get_or}
use Rattle.cover_first.specs.FirstLaws.{group_at, OpenCounted, raised-start, is_open, counted_inside, counted_step}
use Rattle.lists.specs.Lists.{bit}
use Rattle.cover_first.proofs.marking.counts.Goals.{After-meta-x}
use Rattle.cover_first.proofs.marking.counts.Goals as goal

inside : (c : After-meta-x) → (c.group-g.result < length c.loop-i.w) × (c.args.groups + c.meta-x.result < length c.loop-i.w) × (get_or c.loop-i.w c.group-g.result 0 ≤ c.loop-i.i)
inside c = rw (c.group-g.ensures.0, c.meta-x.ensures.0) (counted_inside c.args.groups c.args.metas c.args.edges.now.bytes.now c.args.edges.now.count c.args.w.now c.requires.1 c.loop-i.w c.loop-i.i (omega arith) c.requires.0 c.loop-i.invariant)

small : (b : Bool) → bit b ≤ 1
small true = omega arith
small false = omega arith

pub loop-i-init : goal.loop-i-init
loop-i-init c = raised-start c.args.groups (group_at c.args.edges.now.bytes.now) (is_open c.args.groups c.args.edges.now.bytes.now c.args.w.now) c.args.w.now c.requires.2

pub overflow_add-w : goal.overflow_add-w
overflow_add-w c = omega (arith, (inside (goal.at.overflow_add-w c).After-meta-x).2, c.requires.3, c.fresh.ensures, small (not (eqb (get_or c.loop-i.w (c.args.groups + c.meta-x.result) 0) 1)))

pub loop-i-preserved : goal.loop-i-preserved
loop-i-preserved c = rw c.group-g.ensures.0 (counted_step c.args.groups c.args.metas c.args.edges.now.bytes.now c.args.edges.now.count c.args.w.now c.requires.1 c.loop-i.w c.loop-i.i (omega arith) c.requires.0 c.loop-i.invariant c.fresh.result (rw (← c.meta-x.ensures.0) c.fresh.ensures))

pub returns : goal.returns
returns c = subst (λ (z : ℕ). OpenCounted c.args.groups c.args.edges.now.bytes.now c.args.w.now c.loop-i.w z) (omega arith) c.loop-i.invariant

pub group-g-requires : goal.group-g-requires
group-g-requires c = omega (arith, c.requires.3)

pub meta-x-requires : goal.meta-x-requires
meta-x-requires c = omega (arith, c.requires.3)

pub overflow_add-groups : goal.overflow_add-groups
overflow_add-groups c = omega (arith, (inside (goal.at.overflow_add-groups c).After-meta-x).1)

pub offset_bounds-w-groups : goal.offset_bounds-w-groups
offset_bounds-w-groups c = omega (arith, (inside (goal.at.offset_bounds-w-groups c).After-meta-x).1)

pub bounds-w-groups : goal.bounds-w-groups
bounds-w-groups c = (inside (goal.at.bounds-w-groups c).After-meta-x).1

pub offset_bounds-w-g : goal.offset_bounds-w-g
offset_bounds-w-g c = omega (arith, (inside (goal.at.offset_bounds-w-g c).After-meta-x).0)

pub bounds-w-g : goal.bounds-w-g
bounds-w-g c = (inside (goal.at.bounds-w-g c).After-meta-x).0

pub bounds-w-g-in-loop-i : goal.bounds-w-g-in-loop-i
bounds-w-g-in-loop-i c = (inside (goal.at.bounds-w-g-in-loop-i c).After-meta-x).0

pub shape_of-w : goal.shape_of-w
shape_of-w c = c.loop-i.invariant.size
