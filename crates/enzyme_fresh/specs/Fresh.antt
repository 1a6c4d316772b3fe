-- Each different range of a set once, but for the parts of windows that an earlier site starts as well: f i sites of a window from site i
-- were seen in a window from an earlier site.
use Rattle.std.specs.Prelude.{ℕ, zero, suc, ◌<◌, cond, List, [], ◌∷◌, ◌++◌, length, drop, ltb}
use Rattle.enzyme_cuts.specs.declared.kinds.Knife.{Knife}
use Rattle.enzyme_cuts.specs.Cutting.{Range, set_sites, windows_from}
use Rattle.enzyme_windows.specs.Shared.{SameWindow}
use Rattle.enzyme_windows.specs.SiteLaws.{non_empty}
use Rattle.enzyme_once.specs.Once.{own}

-- the parts of the windows of m + 1 sites, by the sites from i on and those from i + m on
abbrev pub fresh_zip : (ℕ → ℕ) → ℕ → ℕ → List Range → List Range → List Range
fresh_zip f m i [] ps = []
fresh_zip f m i (q ∷ qs) [] = []
fresh_zip f m i (q ∷ qs) (p ∷ ps) =
    let later = fresh_zip f m (suc i) qs ps in
    cond (ltb m (f i)) later (own m q p ++ later)

abbrev pub fresh_owns : (ℕ → ℕ) → ℕ → List Range → List Range
fresh_owns f m rs = fresh_zip f m 0 rs (drop m rs)

-- of the windows of m + 1, m + 2, .. sites, n sizes in all
abbrev pub fresh_from : (ℕ → ℕ) → ℕ → ℕ → List Range → List Range
fresh_from f m zero rs = []
fresh_from f m (suc n) rs = fresh_owns f m rs ++ fresh_from f (suc m) n rs

abbrev pub fresh : (ℕ → ℕ) → Knife → ℕ → List ℕ → List Range
fresh f k missed s = windows_from 0 (suc missed) (non_empty (set_sites k 0 0 s)) ++ fresh_from f 0 (suc missed) (non_empty (set_sites k 0 0 s))

-- what f says is true, and it may say less than there is
abbrev pub Repeats : List (List ℕ) → (ℕ → ℕ) → Type 0
Repeats ts f = (i n : ℕ) → i < length ts → n < f i → ((p : ℕ) × (p < i) × SameWindow ts (suc n) p i)
