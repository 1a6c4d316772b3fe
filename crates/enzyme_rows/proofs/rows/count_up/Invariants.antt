-- `count_up` meets its contract. Assumes nothing.
use Prim.Native.Nat.{ℕ, ◌<◌}
use mathlib.Core.Path.{◌≡◌}
use lib.ListN.{length, get_or}
use Rattle.enzyme_rows.proofs.rows.count_up.Given as goal

abbrev pub invariant-loop-i : goal.invariant-loop-i
invariant-loop-i l = (length l.order ≡ length l.initial.order) × (length l.share ≡ length l.initial.share) × ((p : ℕ) → p < l.i → (get_or l.order p 0 ≡ p) × (get_or l.share p 0 ≡ 0))
