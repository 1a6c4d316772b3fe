-- `has_no_mass` meets its contract. Assumes nothing.
use mathlib.Core.Path.{sym, ◌∙◌}
use native.Mathlib.Omega.{arith}
use lib.Ieee.{of_bits}
use Rattle.peptide_mass.specs.MassLaws.{mass_of_letter, mass_of_other}
use Rattle.letters.specs.CapitalLaws.{letter_from, letter_to}
use Rattle.peptide_mass.proofs.mass.has_no_mass.Goals as goal

pub overflow_sub-capital : goal.overflow_sub-capital
overflow_sub-capital c = omega (arith, c.capital.ensures, letter_from _ (sym c.is_letter.ensures ∙ c.if-is_letter.true))

pub bounds-masses-k : goal.bounds-masses-k
bounds-masses-k c = let e = letter_to _ (sym c.is_letter.ensures ∙ c.if-is_letter.true) in omega (arith, c.capital.ensures, c.requires, c.from-k.ensures)

pub returns-then-is_letter : goal.returns-then-is_letter
unfolding of_bits
returns-then-is_letter c = rw (c.from-k.ensures, c.capital.ensures) (mass_of_letter c.args.masses.now c.args.b (sym c.is_letter.ensures ∙ c.if-is_letter.true))

pub returns : goal.returns
returns c = mass_of_other c.args.masses.now c.args.b (sym c.is_letter.ensures ∙ c.if-is_letter.false)
