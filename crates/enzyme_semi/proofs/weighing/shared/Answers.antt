-- `shared` meets its contract. Assumes nothing.
use Prim.Native.Nat.{◌≤◌}
use mathlib.Core.Path.{sym}
use native.Mathlib.Omega.{arith}
use lib.ListN.{length, get_or-eq_default}
use Rattle.enzyme_semi.proofs.weighing.shared.Goals as goal

pub returns-else-i-share : goal.returns-else-i-share
returns-else-i-share c =
    let a = c.args in
    let h : length a.share.now ≤ a.i = omega arith in
    sym (get_or-eq_default a.share.now 0 h)
