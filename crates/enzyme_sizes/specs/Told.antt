-- The tables of a level, where equal windows are looked for; else they say nothing.
use Rattle.std.specs.Prelude.{ℕ, ◌≤◌, ◌≡◌, Bool, true, false, List, length}
use Rattle.enzyme_words.specs.Words.{Zeros}
use Rattle.enzyme_levels.specs.Levels.{LevelRanked}

-- the tables have a place for each of m sites
pub record TablesLong (looked : Bool) (order other rank share : List ℕ) (m : ℕ) : Type 0 where
  pub for_order : looked ≡ true → m ≤ length order
  pub for_other : looked ≡ true → m ≤ length other
  pub for_rank : looked ≡ true → m ≤ length rank
  pub for_share : looked ≡ true → m ≤ length share

-- windows of n sites are ranked, or every site is said to share nothing
pub record LevelTold (looked : Bool) (ts : List (List ℕ)) (s starts order runs name rank share : List ℕ) (n g m : ℕ) : Type 0 where
  pub ranked : looked ≡ true → LevelRanked ts s starts order runs name rank share n g m
  pub silent : looked ≡ false → (g ≡ 0) × Zeros share
