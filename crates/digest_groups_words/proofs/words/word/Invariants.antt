-- `word` meets its contract: the letters from i on, behind what there is, give the whole. Assumes nothing.
use Prim.Native.Nat.{◌-◌}
use mathlib.Core.Path.{◌≡◌}
use lib.ListN.{drop}
use Rattle.letters.specs.Reversal.{letters_of}
use Rattle.digest_groups_words.specs.Word.{packed}
use Rattle.digest_groups_words.proofs.words.word.Given as goal

abbrev pub invariant-loop-i : goal.invariant-loop-i
invariant-loop-i l = packed l.h (6 - l.i) (drop l.i (letters_of l.decoy l.part)) ≡ packed l.front 6 (letters_of l.decoy l.part)
