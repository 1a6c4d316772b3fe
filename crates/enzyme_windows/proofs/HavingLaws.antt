-- How many windows of pieces have the letters of one. Assumes nothing.
use Rattle.std.specs.Prelude.{ℕ, zero, suc, ◌+◌, ◌-◌, ◌≤◌, ◌<◌, ◌≡◌, refl, Bool, true, false, cond, ◌⊎◌, List, length, drop}
use Rattle.std.proofs.Common.{sym, ap, ◌∙◌, inl, inr, arith}
use Rattle.lists.specs.Lists.{same}
use Rattle.lists.specs.SameLaws.{same_refl, same-eq}
use Rattle.lists.specs.Tests.{below?}
use Rattle.enzyme_cuts.specs.declared.kinds.Knife.{Knife}
use Rattle.enzyme_cuts.specs.Cutting.{range, windows, windows_from, part, having}
use Rattle.enzyme_cuts.specs.HavingLaws.{having_append}
use Rattle.enzyme_windows.specs.Pieces.{pieces, end_to_end, places_from}
use Rattle.enzyme_windows.specs.Shared.{SameWindow}
use Rattle.enzyme_windows.specs.Weights.{sum_to, one_if_same, same_count}
use Rattle.enzyme_windows.specs.PieceLaws.{end_to_end_pieces}
use Rattle.enzyme_windows.proofs.KeptLaws.{text, other_text}
use Rattle.enzyme_windows.proofs.FirstLaws.{letters-window}
use Rattle.enzyme_windows.specs.StartLaws.{piece_start, window-letters, windows-at, windows-past}
use Rattle.enzyme_windows.specs.SumLaws.{sum_alike, sum-none}
use Rattle.enzyme_windows.proofs.ClassLaws.{one_same, same_or}

same-turned : (t u : List ℕ) → same t u ≡ false → same u t ≡ false
same-turned t u e = go (same u t) refl
  where
    go : (b : Bool) → same u t ≡ b → b ≡ false
    go false f = refl
    go true f = let g : t ≡ u = sym (same-eq u t f) in sym (rw g (same_refl u)) ∙ e

module _ (k : Knife) (s : List ℕ) where
  -- 1 for a window of m + 1 sites that has the letters x
  abbrev has : ℕ → List ℕ → ℕ → ℕ
  has m x j = cond (same (text k s m j) x) 1 0

  -- the letters of a window
  pub window-text : (m j : ℕ) → part s (range (piece_start (pieces k s) j) (piece_start (pieces k s) (j + suc m)) m 0) ≡ text k s m j
  window-text m j =
      let r = range (piece_start (pieces k s) j) (piece_start (pieces k s) (j + suc m)) m 0 in
      ap (λ (l : List ℕ). part l r) (sym (end_to_end_pieces k s)) ∙ window-letters (pieces k s) j (suc m) m

  -- the windows of one size, from site j on
  from-site : (m : ℕ) (x : List ℕ) (left j : ℕ) → left ≡ length (pieces k s) - m - j → j ≤ length (pieces k s) - m
      → having s (drop j (windows m (places_from 0 (pieces k s)))) x + sum_to (has m x) j ≡ sum_to (has m x) (length (pieces k s) - m)
  from-site m x zero j e h =
      let z : j ≡ length (pieces k s) - m = omega arith in
      rw (windows-past m j 0 (pieces k s) (omega arith), z) (omega arith)
  from-site m x (suc left) j e h =
      let ih = from-site m x left (suc j) (omega arith) (omega arith) in
      let W = windows m (places_from 0 (pieces k s)) in
      let a : 0 + piece_start (pieces k s) j ≡ piece_start (pieces k s) j = omega arith in
      let b : 0 + piece_start (pieces k s) (j + suc m) ≡ piece_start (pieces k s) (j + suc m) = omega arith in
      rw (windows-at m j 0 (pieces k s) (omega arith), a, b, window-text m j) (go (same (text k s m j) x) (having s (drop (suc j) W) x) (sum_to (has m x) j) ih)
    where
      go : (t : Bool) (n u : ℕ) → n + (cond t 1 0 + u) ≡ sum_to (has m x) (length (pieces k s) - m) → cond t (suc n) n + u ≡ sum_to (has m x) (length (pieces k s) - m)
      go true n u e = omega arith
      go false n u e = omega arith

  size-having : (m : ℕ) (x : List ℕ) → having s (windows m (places_from 0 (pieces k s))) x ≡ sum_to (has m x) (length (pieces k s) - m)
  size-having m x = let e = from-site m x (length (pieces k s) - m) 0 (omega arith) (omega arith) in omega arith

  -- the letters of the window of n + 1 sites from i
  module _ (n i : ℕ) (h : i + suc n ≤ length (pieces k s)) where
    of_size : having s (windows n (places_from 0 (pieces k s))) (text k s n i) ≡ same_count (pieces k s) (suc n) i
    of_size =
        let m : length (pieces k s) - n ≡ suc (length (pieces k s)) - suc n = omega arith in
        size-having n (text k s n i)
        ∙ sum_alike (has n (text k s n i)) (one_if_same (pieces k s) (suc n) i) (length (pieces k s) - n) (λ j l. go j (omega arith) (same (text k s n j) (text k s n i)) refl (same_or (pieces k s) n i j))
        ∙ rw m
      where
        go : (j : ℕ) → j + suc n ≤ length (pieces k s) → (b : Bool) → same (text k s n j) (text k s n i) ≡ b → SameWindow (pieces k s) (suc n) i j ⊎ (one_if_same (pieces k s) (suc n) i j ≡ 0)
            → has n (text k s n i) j ≡ one_if_same (pieces k s) (suc n) i j
        go j l true e d =
            let t = same-eq (text k s n j) (text k s n i) e in
            rw e (sym (one_same (pieces k s) n i j (letters-window k s (suc n) i j h l (sym t))))
        go j l false e (inr z) = rw e (sym z)
        go j l false e (inl w) =
            let t : text k s n j ≡ text k s n i = ap end_to_end (sym w.equal) in
            let f : true ≡ false = sym (rw t (same_refl (text k s n i))) ∙ e in
            let z : ◌≡◌ {A = ℕ} 0 1 = cc in
            absurd (omega arith)

    of_other : (m : ℕ) → (m < n) ⊎ (n < m) → having s (windows m (places_from 0 (pieces k s))) (text k s n i) ≡ 0
    of_other m d = size-having m (text k s n i) ∙ sum-none (has m (text k s n i)) (length (pieces k s) - m) (λ j l. go j (omega arith) d)
      where
        go : (j : ℕ) → j + suc m ≤ length (pieces k s) → (m < n) ⊎ (n < m) → has m (text k s n i) j ≡ 0
        go j l (inl o) = rw (other_text k s m n j i o l h)
        go j l (inr o) = rw (same-turned (text k s n i) (text k s m j) (other_text k s n m i j o h l))

    past : (z m : ℕ) → n < m → having s (windows_from m z (places_from 0 (pieces k s))) (text k s n i) ≡ 0
    past zero m l = refl
    past (suc z) m l =
        let a = having_append s (windows m (places_from 0 (pieces k s))) (windows_from (suc m) z (places_from 0 (pieces k s))) (text k s n i) in
        let b = of_other m (inr l) in
        let c = past z (suc m) (omega arith) in
        omega arith

    -- among the windows of m + 1, m + 2, .. sites
    pub sizes-having : (z m : ℕ) → m ≤ n → n < m + z → having s (windows_from m z (places_from 0 (pieces k s))) (text k s n i) ≡ same_count (pieces k s) (suc n) i
    sizes-having zero m l u = absurd (omega arith)
    sizes-having (suc z) m l u = go (below? m n) (sizes-having z (suc m)) (having_append s (windows m (places_from 0 (pieces k s))) (windows_from (suc m) z (places_from 0 (pieces k s))) (text k s n i))
      where
        go : (m < n) ⊎ (n ≤ m) → (suc m ≤ n → n < suc m + z → having s (windows_from (suc m) z (places_from 0 (pieces k s))) (text k s n i) ≡ same_count (pieces k s) (suc n) i)
            → having s (windows_from m (suc z) (places_from 0 (pieces k s))) (text k s n i) ≡ having s (windows m (places_from 0 (pieces k s))) (text k s n i) + having s (windows_from (suc m) z (places_from 0 (pieces k s))) (text k s n i)
            → having s (windows_from m (suc z) (places_from 0 (pieces k s))) (text k s n i) ≡ same_count (pieces k s) (suc n) i
        go (inl o) ih a = let b = of_other m (inl o) in let c = ih (omega arith) (omega arith) in omega arith
        go (inr o) ih a =
            let e : m ≡ n = omega arith in
            let b : having s (windows m (places_from 0 (pieces k s))) (text k s n i) ≡ same_count (pieces k s) (suc n) i = rw e of_size in
            let c = past z (suc m) (omega arith) in
            omega arith
