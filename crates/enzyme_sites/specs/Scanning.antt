-- The scan for sites, letter by letter.
use Rattle.std.specs.Prelude.{ℕ, ◌-◌, ◌≤◌, ◌≡◌, Bool, true, List, [], ◌∷◌, length, get_or, drop}
use Rattle.enzyme_cuts.specs.declared.kinds.Knife.{Knife}
use Rattle.enzyme_windows.specs.Pieces.{between, on_first, pieces}
use Rattle.enzyme_windows.specs.StartLaws.{piece_start}

-- whether the first letter is the last of its site
abbrev pub ends_site : Knife → List ℕ → Bool
ends_site k [] = true
ends_site k (b ∷ []) = true
ends_site k (b ∷ c ∷ s) = between k b c

-- letters in front of the first text
abbrev pub glue : List ℕ → List (List ℕ) → List (List ℕ)
glue [] ts = ts
glue (b ∷ bs) ts = on_first b (glue bs ts)

-- x holds the starts of m sites and of the one behind them, in which the letters up to j are not cut
pub record Scanned (k : Knife) (s x : List ℕ) (m j : ℕ) : Type 0 where
  pub inside : j ≤ length s
  pub few : m ≤ j
  pub behind : piece_start (pieces k s) m ≤ j
  pub ended : length s ≤ j → piece_start (pieces k s) m ≡ j
  pub known : m ≤ length (pieces k s)
  pub at : (i : ℕ) → i ≤ m → get_or x i 0 ≡ piece_start (pieces k s) i
  pub rest : ((p : List ℕ) × (length p ≡ j - piece_start (pieces k s) m) × (drop m (pieces k s) ≡ glue p (pieces k (drop j s))))
