-- `lower` meets its contract. Assumes nothing.
use Prim.Native.Nat.{◌<◌}
use native.Mathlib.Omega.{arith}
use lib.ListN.{length}
use Rattle.cover_tables.specs.TableLaws.{lowered_start, lowered_inside, lowered_some, lowered_step, lowered_end}
use Rattle.cover_taking.proofs.taking.lower.Goals.{After-wide-g}
use Rattle.cover_taking.proofs.taking.lower.Goals as goal

inside : (c : After-wide-g) → c.wide-g.result < length c.loop-p.w
inside c = rw c.wide-g.ensures.0 (lowered_inside c.args.groups c.args.a c.args.e c.args.w.now c.requires c.loop-p.w c.loop-p.p c.loop-p.invariant (omega arith))

pub loop-p-init : goal.loop-p-init
loop-p-init c = lowered_start c.args.groups c.args.a c.args.e c.args.w.now c.requires

pub overflow_sub-w : goal.overflow_sub-w
overflow_sub-w c = rw c.wide-g.ensures.0 (lowered_some c.args.groups c.args.a c.args.e c.args.w.now c.requires c.loop-p.w c.loop-p.p c.loop-p.invariant (omega arith))

pub loop-p-preserved : goal.loop-p-preserved
loop-p-preserved c = rw c.wide-g.ensures.0 (lowered_step c.args.groups c.args.a c.args.e c.args.w.now c.requires c.loop-p.w c.loop-p.p c.loop-p.invariant (omega arith))

pub returns : goal.returns
returns c = let a = c.args in (lowered_end a.groups a.a a.e a.w.now c.loop-p.w c.loop-p.p c.loop-p.invariant (omega arith), c.loop-p.invariant.rest)

pub bounds-w-p : goal.bounds-w-p
bounds-w-p c = omega (arith, c.loop-p.invariant.size, c.requires.fits)

pub offset_bounds-w-g : goal.offset_bounds-w-g
offset_bounds-w-g c = omega (arith, inside (goal.at.offset_bounds-w-g c).After-wide-g)

pub bounds-w-g : goal.bounds-w-g
bounds-w-g c = inside (goal.at.bounds-w-g c).After-wide-g

pub bounds-w-g-in-loop-p : goal.bounds-w-g-in-loop-p
bounds-w-g-in-loop-p c = inside (goal.at.bounds-w-g-in-loop-p c).After-wide-g

pub shape_of-w : goal.shape_of-w
shape_of-w c = c.loop-p.invariant.size
