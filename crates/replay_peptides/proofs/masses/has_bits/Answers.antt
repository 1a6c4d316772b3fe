-- `has_bits` is safe: below the bits of the infinite number there is no not-a-number. Assumes nothing.
use Prim.Native.Nat.{◌%◌, ◌≤◌}
use mathlib.Core.Bool.{false}
use mathlib.Core.Path.{◌≡◌, ◌∙◌}
use native.Mathlib.Omega.{arith}
use lib.Ieee.{binary32, nan_bits}
use lib.Ieee.Bits.{nan_bits_above}
use borrow.Author.Tests.{le-ltb}
use Rattle.replay_peptides.proofs.masses.has_bits.Goals as goal

pub float_from_bits-result : goal.float_from_bits-result
float_from_bits-result c =
    let bits = c.args.bits in
    let low : bits % 2147483648 ≤ 2139095040 = omega arith in
    let none : nan_bits binary32 bits ≡ false = nan_bits_above binary32 bits ∙ le-ltb 2139095040 (bits % 2147483648) low in
    rw none tt
