-- `spell` meets its contract: the first i letters stand. Assumes nothing.
use mathlib.Core.Path.{◌≡◌}
use Rattle.records.specs.Room.{room_of}
use Rattle.letters.specs.Reversal.{letters_of}
use Rattle.enzyme_reversal.specs.SpellingLaws.{Spelling}
use Rattle.enzyme_reversal.proofs.spelling.spell.Given as goal

abbrev pub invariant-loop-i : goal.invariant-loop-i
invariant-loop-i l = (l.room ≡ room_of 1 65536 l.initial.out) × Spelling l.initial.out (letters_of l.decoy l.part) l.i l.out
