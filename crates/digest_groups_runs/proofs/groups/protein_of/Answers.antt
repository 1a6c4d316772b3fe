-- `protein_of` meets its contract. Assumes nothing.
use Prim.Native.Nat.{◌+◌, ◌-◌, ◌*◌}
use native.Mathlib.Omega.{arith}
use mathlib.Core.Path.{◌≡◌}
use Rattle.digest_groups_runs.proofs.groups.protein_of.Goals as goal

pub returns : goal.returns
returns c = let x = c.args.x in let n : 20 * x + 20 - 20 * x ≡ 20 = omega arith in rw n at c.u32_at.ensures
