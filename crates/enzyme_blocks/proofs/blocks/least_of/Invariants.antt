-- `least_of` meets its contract: none of the numbers so far is below the least. Assumes nothing.
use Rattle.enzyme_blocks.specs.Blocks.{Above}
use Rattle.enzyme_blocks.proofs.blocks.least_of.Given as goal

abbrev pub invariant-loop-i : goal.invariant-loop-i
invariant-loop-i l = Above l.longest l.from l.i l.least
