-- `first_bad_bound` meets its contract. Assumes nothing.
use lib.ListN.{length}
use Rattle.catalogue_spec.specs.Book.{bad_bound, first_bad_bound}
use Rattle.records.specs.SeekingLaws.{Seeking}
use Rattle.catalogue_book.proofs.book.first_bad_bound.Given as goal

abbrev pub invariant-loop-i : goal.invariant-loop-i
invariant-loop-i l = Seeking (bad_bound l.bounds l.letters) (length l.bounds) l.i (first_bad_bound l.bounds l.letters)
