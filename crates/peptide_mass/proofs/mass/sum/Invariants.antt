-- `sum` meets its contract. The invariant: what is left of the letters, added to the sum so far, gives the answer. Assumes
-- nothing.
use Rattle.std.proofs.Common.{◌≡◌, drop}
use Rattle.peptide_mass.specs.Masses.{add_all}
use Rattle.peptide_mass.proofs.mass.sum.Given as goal

abbrev pub invariant-loop-b : goal.invariant-loop-b
invariant-loop-b l = add_all l.masses l.mass (drop l.b-index l.letters) ≡ add_all l.masses l.water l.letters
