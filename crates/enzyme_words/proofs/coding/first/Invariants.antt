-- `first` meets its contract. Assumes nothing.
use mathlib.Core.Path.{◌≡◌}
use Rattle.enzyme_words.specs.Words.{word_at}
use Rattle.enzyme_words.proofs.coding.first.Given as goal

abbrev pub invariant-loop-i : goal.invariant-loop-i
invariant-loop-i l = l.w ≡ word_at l.letters 0 l.i
