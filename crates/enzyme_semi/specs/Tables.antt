-- The tables of a level, as far as weights are read off them.
use Rattle.std.specs.Prelude.{ℕ, ◌≤◌, ◌<◌, List, length}

-- the first g places of `order` and `runs` and the m sites of `rank` and `share` are there; where g is 0, nothing is asked of the tables
pub record TablesServe (order runs rank share : List ℕ) (g m : ℕ) : Type 0 where
  pub places : g ≤ length order
  pub starts : g ≤ length runs
  pub few : g ≤ 65536
  pub ranks : 0 < g → m ≤ length rank
  pub shares : 0 < g → m ≤ length share
