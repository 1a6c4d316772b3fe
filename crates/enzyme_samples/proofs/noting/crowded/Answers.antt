-- `crowded` meets its contract. Assumes nothing.
use Prim.Native.Nat.{ℕ}
use mathlib.Core.Path.{◌≡◌}
use native.Mathlib.Omega.{arith}
use Rattle.enzyme_samples.proofs.noting.crowded.Goals as goal

pub returns-then-room-samples : goal.returns-then-room-samples
returns-then-room-samples c = λ e. let z : ◌≡◌ {A = ℕ} 0 1 = cc in absurd (omega arith)
