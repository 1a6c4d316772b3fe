-- `seek_bad` meets its contract. Assumes nothing.
use Rattle.std.proofs.Common.{length}
use Rattle.records.specs.SeekingLaws.{Seeking}
use Rattle.letters.specs.Letters.{no_letter, first_bad}
use Rattle.letters.proofs.stretch.seek_bad.Given as goal

abbrev pub invariant-loop-i : goal.invariant-loop-i
invariant-loop-i l = Seeking (no_letter l.s) (length l.s) l.i (first_bad l.s)
