-- Linked lists of records in a table. Assumes nothing.
use Rattle.std.specs.Prelude.{ℕ, zero, suc, ◌+◌, ◌*◌, ◌<◌, ◌≡◌, cond, List, get_or, eqb}
use Rattle.records.specs.Le.{number_at}

-- one more than the last of the first i records whose field at byte f is x, or 0
unfoldable pub last_with : List ℕ → ℕ → ℕ → ℕ → ℕ
last_with bs f x zero = 0
last_with bs f x (suc i) = cond (eqb (number_at 4 bs (8 * i + f)) x) (suc i) (last_with bs f x i)

-- linked lists of the records with equal field: heads at h, nexts at nx
pub record Chains (w bs : List ℕ) (f n size h nx : ℕ) : Type 0 where
  pub heads : (x : ℕ) → x < size → get_or w (h + x) 0 ≡ last_with bs f x n
  pub nexts : (i : ℕ) → i < n → get_or w (nx + i) 0 ≡ last_with bs f (number_at 4 bs (8 * i + f)) i
