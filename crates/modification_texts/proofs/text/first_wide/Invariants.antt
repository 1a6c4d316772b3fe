-- `first_wide` meets its contract. Assumes nothing.
use lib.ListN.{length}
use Rattle.records.specs.SeekingLaws.{Seeking}
use Rattle.modification_texts.specs.Texts.{wide, first_wide}
use Rattle.modification_texts.proofs.text.first_wide.Given as goal

abbrev pub invariant-loop-i : goal.invariant-loop-i
invariant-loop-i l = Seeking (wide l.text) (length l.text) l.i (first_wide l.text)
