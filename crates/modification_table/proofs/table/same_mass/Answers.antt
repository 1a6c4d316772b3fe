-- `same_mass` meets its contract. Assumes nothing.
use mathlib.Core.Path.{refl, sym, ◌∙◌}
use Rattle.modification_table.specs.Tables.{same_mass}
use Rattle.modification_table.specs.TableLaws.{same-nan-left, same-nan_right}
use Rattle.modification_table.proofs.table.same_mass.Goals as goal

pub returns-then-is_nan : goal.returns-then-is_nan
returns-then-is_nan c = sym (same-nan-left _ _ (sym c.is_nan.ensures ∙ c.if-is_nan.true))

pub returns-then-is_nan-2 : goal.returns-then-is_nan-2
returns-then-is_nan-2 c = sym (same-nan_right _ _ (sym c.is_nan-2.ensures ∙ c.if-is_nan-2.true))

pub float_from_bits-result : goal.float_from_bits-result
float_from_bits-result c = rw (← c.is_nan.ensures, c.if-is_nan.false) tt

pub float_from_bits-result-2 : goal.float_from_bits-result-2
float_from_bits-result-2 c = rw (← c.is_nan-2.ensures, c.if-is_nan-2.false) tt

pub returns : goal.returns
unfolding same_mass
returns c = refl
