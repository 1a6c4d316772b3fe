-- The table of the places at which sites start.
use Rattle.std.specs.Prelude.{ℕ, ◌≤◌, ◌<◌, ◌≡◌, List, length, get_or}
use Rattle.enzyme_cuts.specs.declared.kinds.Knife.{Knife}
use Rattle.enzyme_windows.specs.Pieces.{pieces}
use Rattle.enzyme_windows.specs.StartLaws.{piece_start}

-- x holds the start of each of the m non-empty sites of the letters s, and behind them the end of the last one
pub record Starts (k : Knife) (s x : List ℕ) (m : ℕ) : Type 0 where
  pub count : m ≡ length (pieces k s)
  pub room : m < length x
  pub at : (i : ℕ) → i ≤ m → get_or x i 0 ≡ piece_start (pieces k s) i
