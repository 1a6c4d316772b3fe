-- The order of the groups in the cover by levels: original edges, then the number, both falling.
use Rattle.std.specs.Prelude.{ℕ, ◌≤◌, ◌<◌, ◌≡◌}

pub record GroupOrder (n : ℕ) (o ord : ℕ → ℕ) : Type 0 where
  pub below : (i : ℕ) → i < n → ord i < n
  pub holds : (g : ℕ) → g < n → (i : ℕ) × (i < n) × (ord i ≡ g)
  pub falls : (i j : ℕ) → i ≤ j → j < n → (o (ord j) ≤ o (ord i)) × (o (ord j) ≡ o (ord i) → ord j ≤ ord i)
