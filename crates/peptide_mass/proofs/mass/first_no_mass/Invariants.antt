-- `first_no_mass` meets its contract: the search of records, one letter a turn. Assumes nothing.
use Rattle.std.proofs.Common.{length}
use Rattle.records.specs.SeekingLaws.{Seeking}
use Rattle.peptide_mass.specs.Masses.{first_no_mass}
use Rattle.peptide_mass.specs.MassLaws.{no_mass_at}
use Rattle.peptide_mass.proofs.mass.first_no_mass.Given as goal

abbrev pub invariant-loop-i : goal.invariant-loop-i
invariant-loop-i l = Seeking (no_mass_at l.masses l.letters) (length l.letters) l.i (first_no_mass l.masses l.letters)
