-- `lowest` meets its contract. Assumes nothing.
use Prim.Native.Nat.{◌+◌, ◌<◌}
use native.Mathlib.Omega.{arith}
use mathlib.Core.Path.{refl, ◌∙◌}
use lib.ListN.{get_or, length-set}
use Rattle.cover_joining.specs.JoiningLaws.{finding_start, finding_less, finding_turn, finding_end}
use Rattle.cover_joining.proofs.joining.lowest.Goals.{In-loop-up}
use Rattle.cover_joining.proofs.joining.lowest.Goals as goal

-- the node after the next is below y
below : (c : In-loop-up) → get_or c.loop-up.w (c.args.p + c.loop-up.up) 0 < c.loop-up.y
below c = let a = c.args in let lp = c.loop-up in finding_less a.w.now lp.w a.p a.n a.x lp.y lp.up (get_or lp.w (a.p + lp.up) 0) lp.invariant.1 c.loop-up-test.true refl

pub loop-up-init : goal.loop-up-init
loop-up-init c = let a = c.args in (refl, finding_start a.w.now a.p a.n a.x _ c.requires.forest c.requires.x_lt_n refl)

pub overflow_add-up-in-loop-up : goal.overflow_add-up-in-loop-up
overflow_add-up-in-loop-up c = omega (arith, below (goal.at.overflow_add-up-in-loop-up c).In-loop-up, c.loop-up.invariant.1.forest.room, c.loop-up.invariant.1.inside)

pub offset_bounds-w-p-in-loop-up-3 : goal.offset_bounds-w-p-in-loop-up-3
offset_bounds-w-p-in-loop-up-3 c = omega (arith, below (goal.at.offset_bounds-w-p-in-loop-up-3 c).In-loop-up, c.loop-up.invariant.1.forest.room, c.loop-up.invariant.1.inside)

pub bounds-w-p-in-loop-up-3 : goal.bounds-w-p-in-loop-up-3
bounds-w-p-in-loop-up-3 c = simp length-set (omega (arith, below (goal.at.bounds-w-p-in-loop-up-3 c).In-loop-up, c.loop-up.invariant.1.forest.room, c.loop-up.invariant.1.inside))

pub loop-up-preserved : goal.loop-up-preserved
loop-up-preserved c =
    let a = c.args in
    let lp = c.loop-up in
    let next = get_or lp.w (a.p + lp.up) 0 in
    (length-set lp.w (a.p + lp.y) next ∙ lp.invariant.0, finding_turn a.w.now lp.w a.p a.n a.x lp.y lp.up next lp.invariant.1 c.loop-up-test.true refl _ refl)

pub returns : goal.returns
returns c = let a = c.args in let lp = c.loop-up in finding_end a.w.now lp.w a.p a.n a.x lp.y lp.up lp.invariant.1 c.loop-up-test.false

pub loop-up-smaller : goal.loop-up-smaller
loop-up-smaller c = below (goal.at.loop-up-smaller c).In-loop-up
