-- `all_good` meets its contract: as long as all are letters, the first that is none is still ahead. Assumes nothing.
use Rattle.std.proofs.Common.{◌≡◌, true, length}
use Rattle.records.specs.SeekingLaws.{Seeking}
use Rattle.letters.specs.Letters.{no_letter, first_bad}
use Rattle.letters.proofs.stretch.all_good.Given as goal

abbrev pub invariant-loop-b : goal.invariant-loop-b
invariant-loop-b l = l.good ≡ true → Seeking (no_letter l.s) (length l.s) l.b-index (first_bad l.s)
