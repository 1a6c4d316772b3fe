-- How many of the parts of windows have some letters: the sum of what each window's parts have, and these depend on its pieces alone.
-- Assumes nothing.
use Rattle.std.specs.Prelude.{ℕ, zero, suc, ◌+◌, ◌-◌, ◌≡◌, refl, cond, List, [], ◌∷◌, map, take, drop}
use Rattle.std.proofs.Common.{ap, ap₂, ◌∙◌, arith}
use Rattle.lists.specs.Lists.{same}
use Rattle.enzyme_cuts.specs.Cutting.{Range, part, having}
use Rattle.enzyme_cuts.specs.HavingLaws.{having_append}
use Rattle.enzyme_windows.specs.Pieces.{end_to_end}
use Rattle.enzyme_windows.specs.Shared.{SameWindow}
use Rattle.enzyme_windows.specs.Weights.{sum_to}
use Rattle.enzyme_windows.specs.StartLaws.{piece_start}
use Rattle.enzyme_once.specs.Once.{own, owns}
use Rattle.enzyme_once.specs.SpotLaws.{spots, shares, owns-shares}
use Rattle.enzyme_fresh.specs.LetterLaws.{site_of, part_letters, window_parts}

-- ---- counting

-- how many of the texts are x
abbrev pub times_in : List (List ℕ) → List ℕ → ℕ
times_in [] x = 0
times_in (t ∷ ts) x = cond (same t x) (suc (times_in ts x)) (times_in ts x)

having-texts : (s : List ℕ) (rs : List Range) (x : List ℕ) → having s rs x ≡ times_in (map (part s) rs) x
having-texts s [] x = refl
having-texts s (r ∷ rs) x = rw (having-texts s rs x)

-- ---- sums

-- the sum of g over i, i + 1, .., n in all
abbrev pub sum_from : (ℕ → ℕ) → ℕ → ℕ → ℕ
sum_from g i zero = 0
sum_from g i (suc n) = g i + sum_from g (suc i) n

module _ (g : ℕ → ℕ) where
  sum-last : (n i : ℕ) → sum_from g i (suc n) ≡ g (i + n) + sum_from g i n
  sum-last zero i = let e : i + 0 ≡ i = omega arith in rw e
  sum-last (suc n) i =
      let e : i + suc n ≡ suc i + n = omega arith in
      let ih = sum-last n (suc i) in
      rw e (omega arith)

  pub sum-from : (n : ℕ) → sum_from g 0 n ≡ sum_to g n
  sum-from zero = refl
  sum-from (suc n) =
      let e : 0 + n ≡ n = omega arith in
      sum-last n 0 ∙ rw (e, sum-from n)

-- ---- the parts of the windows of m + 1 pieces

module _ (s : List ℕ) (ts : List (List ℕ)) (whole : end_to_end ts ≡ s) (x : List ℕ) (m : ℕ) where
  -- how many parts of window i have the letters x
  abbrev pub own_times : ℕ → ℕ
  own_times i = times_in (part_letters m (take (suc m) (drop i ts))) x

  pub own-times : (i j : ℕ) → j ≡ i + m → having s (own m (site_of ts i) (site_of ts j)) x ≡ own_times i
  own-times i j e =
      let p : map (part s) (own m (site_of ts i) (site_of ts j)) ≡ part_letters m (take (suc m) (drop i ts)) = rw (e, ← whole) (window_parts ts m i) in
      having-texts s (own m (site_of ts i) (site_of ts j)) x ∙ ap (λ (us : List (List ℕ)). times_in us x) p

  -- equal windows have as many
  pub own-alike : (i j : ℕ) → SameWindow ts (suc m) i j → own_times i ≡ own_times j
  own-alike i j w = ap (λ (us : List (List ℕ)). times_in (part_letters m us) x) w.equal

  shares-times : (n i j : ℕ) → j ≡ i + m → having s (shares (piece_start ts) m i j n) x ≡ sum_from own_times i n
  shares-times zero i j e = refl
  shares-times (suc n) i j e =
      having_append s (own m (site_of ts i) (site_of ts j)) (shares (piece_start ts) m (suc i) (suc j) n) x
      ∙ ap₂ (λ (a b : ℕ). a + b) (own-times i j e) (shares-times n (suc i) (suc j) (omega arith))

  pub owns-times : (n : ℕ) → having s (owns m (spots (piece_start ts) 0 n)) x ≡ sum_to own_times (n - m)
  owns-times n = ap (λ (rs : List Range). having s rs x) (owns-shares (piece_start ts) m 0 n) ∙ shares-times (n - m) 0 (0 + m) refl ∙ sum-from own_times (n - m)
