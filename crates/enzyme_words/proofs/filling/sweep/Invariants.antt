-- `sweep` meets its contract. Assumes nothing.
use lib.ListN.{length}
use Rattle.enzyme_words.specs.Words.{StartsSwept}
use Rattle.enzyme_words.proofs.filling.sweep.Given as goal

abbrev pub invariant-loop-i : goal.invariant-loop-i
invariant-loop-i l = StartsSwept l.letters l.q (length l.count) l.i l.far l.r
