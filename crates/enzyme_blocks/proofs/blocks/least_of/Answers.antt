-- `least_of` meets its contract: none of the numbers so far is below the least. Assumes nothing.
use native.Mathlib.Omega.{arith}
use Rattle.enzyme_blocks.specs.BlockLaws.{above_on}
use Rattle.enzyme_blocks.proofs.blocks.least_of.Goals as goal

pub loop-i-init : goal.loop-i-init
loop-i-init c = λ j h k. absurd (omega arith)

pub loop-i-preserved : goal.loop-i-preserved
loop-i-preserved c = let l = c.loop-i in
    rw (c.min-least.ensures, c.from.ensures) (above_on c.args.longest.now c.args.from l.i l.least l.invariant)

pub returns : goal.returns
returns c = λ j h k. c.loop-i.invariant j h (omega arith)
