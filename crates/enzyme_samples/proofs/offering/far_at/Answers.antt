-- `far_at` meets its contract. Assumes nothing.
use Prim.Native.Nat.{◌≤◌}
use mathlib.Core.Path.{sym}
use native.Mathlib.Omega.{arith}
use lib.ListN.{length, get_or-eq_default}
use Rattle.enzyme_samples.proofs.offering.far_at.Goals as goal

pub returns-else-at-far : goal.returns-else-at-far
returns-else-at-far c = let h : length c.args.far.now ≤ c.args.at = omega arith in
    sym (get_or-eq_default c.args.far.now 0 h)
