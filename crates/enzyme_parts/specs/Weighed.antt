-- The parts of windows, each for as many windows as w says: those of a window of m + 1 sites from site i for w m i, none for 0.
use Rattle.std.specs.Prelude.{ℕ, zero, suc, cond, List, [], ◌∷◌, ◌++◌, drop, eqb}
use Rattle.enzyme_cuts.specs.Cutting.{Range}
use Rattle.enzyme_once.specs.Once.{own}
use Rattle.enzyme_samples.specs.Ready.{Weighted, loaded}

-- those of the windows of m + 1 sites, by the sites from i on and those from i + m on
abbrev pub weigh_zip : (ℕ → ℕ) → ℕ → ℕ → List Range → List Range → List Weighted
weigh_zip w m i [] ps = []
weigh_zip w m i (q ∷ qs) [] = []
weigh_zip w m i (q ∷ qs) (p ∷ ps) =
    let later = weigh_zip w m (suc i) qs ps in
    cond (eqb (w i) 0) later (loaded (w i) (own m q p) ++ later)

abbrev pub weigh_owns : (ℕ → ℕ) → ℕ → List Range → List Weighted
weigh_owns w m rs = weigh_zip w m 0 rs (drop m rs)

-- of the windows of m + 1, m + 2, .. sites, n sizes in all
abbrev pub weigh_from : (ℕ → ℕ → ℕ) → ℕ → ℕ → List Range → List Weighted
weigh_from w m zero rs = []
weigh_from w m (suc n) rs = weigh_owns (w m) m rs ++ weigh_from w (suc m) n rs
