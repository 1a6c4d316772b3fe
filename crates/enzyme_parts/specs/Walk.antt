-- The table of starts, as the places that sites lie between, and the parts of windows by it.
use Rattle.std.specs.Prelude.{ℕ, zero, suc, ◌+◌, ◌≡◌, cond, List, [], ◌++◌, get_or, eqb}
use Rattle.enzyme_cuts.specs.Cutting.{Range, site}
use Rattle.enzyme_once.specs.Once.{own}
use Rattle.enzyme_once.specs.SpotLaws.{spots}
use Rattle.enzyme_samples.specs.Ready.{Weighted, loaded}

-- where site i starts, and the one before it ends
abbrev pub site_start : List ℕ → ℕ → ℕ
site_start x i = get_or x i 0

-- the m sites of a table of starts
abbrev pub sites_in : List ℕ → ℕ → List Range
sites_in x m = spots (site_start x) 0 m

abbrev pub site_in : List ℕ → ℕ → Range
site_in x i = site (site_start x i) (site_start x (i + 1))

-- the parts of the window of the sites i to j, m sites on, each for `times`: none for 0
abbrev pub weigh_part : List ℕ → ℕ → ℕ → ℕ → ℕ → List Weighted
weigh_part x times m i j = cond (eqb times 0) [] (loaded times (own m (site_in x i) (site_in x j)))

-- those of the n windows of the sites i to j, i + 1 to j + 1, .., each for as many as w says of it
abbrev pub weigh_ins : List ℕ → (ℕ → ℕ) → ℕ → ℕ → ℕ → ℕ → List Weighted
weigh_ins x w m i j zero = []
weigh_ins x w m i j (suc n) = weigh_part x (w i) m i j ++ weigh_ins x w m (suc i) (suc j) n

-- of the ranges rest, xs are next and ys behind them
pub record NextUp (rest xs ys : List Weighted) : Type 0 where
  pub is : rest ≡ xs ++ ys
