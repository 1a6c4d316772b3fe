-- `tally` meets its contract. Assumes nothing.
use mathlib.Core.Path.{◌≡◌}
use Prim.Native.Nat.{◌-◌}
use lib.ListN.{length}
use Rattle.enzyme_words.specs.Words.{word_at, WordsTallied}
use Rattle.enzyme_words.proofs.filling.tally.Given as goal

abbrev pub invariant-loop-i : goal.invariant-loop-i
invariant-loop-i l = (l.rest ≡ word_at l.letters l.i (l.q - 1)) × WordsTallied l.letters l.q (length l.initial.count) l.i l.far l.count
