-- `first_unfit` meets its contract: the search of records, one letter a turn. Assumes nothing.
use Rattle.std.proofs.Common.{length}
use Rattle.records.specs.SeekingLaws.{Seeking}
use Rattle.peptide_digests.specs.DigestTests.{first_unfit}
use Rattle.peptide_digests.specs.DigestTestLaws.{unfit_at}
use Rattle.peptide_digests.proofs.digests.first_unfit.Given as goal

abbrev pub invariant-loop-i : goal.invariant-loop-i
invariant-loop-i l = Seeking (unfit_at l.masses l.start l.end l.letters) (length l.letters) l.i (first_unfit l.masses l.start l.end l.letters)
