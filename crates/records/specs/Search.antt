-- The first place that passes a test: refusals name the lowest place, the table answers the first entry.
use Rattle.std.specs.Prelude.{ℕ, zero, suc, Bool, cond}

-- of the k places from i on the first that passes, or i + k where none does
unfoldable pub seek : (ℕ → Bool) → ℕ → ℕ → ℕ
seek p i zero = i
seek p i (suc k) = let later = seek p (suc i) k in cond (p i) i later
