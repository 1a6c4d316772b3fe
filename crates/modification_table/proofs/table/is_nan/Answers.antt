-- `is_nan` meets its contract. Assumes nothing.
use mathlib.Core.Path.{sym}
use lib.Ieee.{binary32}
use lib.Ieee.Bits.{nan_bits_above}
use Rattle.modification_table.proofs.table.is_nan.Goals as goal

pub returns : goal.returns
returns c = sym (nan_bits_above binary32 c.args.a)
