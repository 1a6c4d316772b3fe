-- What weighed ranges add to some letters: as many as there are ranges that have them, where the weights of equal windows come to their
-- number. Assumes nothing.
use Rattle.std.specs.Prelude.{ℕ, zero, suc, ◌+◌, ◌-◌, ◌*◌, ◌≤◌, ◌≡◌, refl, Bool, true, false, cond, ◌&&◌, List, [], ◌∷◌, ◌++◌, length, eqb}
use Rattle.std.proofs.Common.{sym, ap, ap₂, ◌∙◌, arith, mul-suc, mul-zero, zero-mul, one-mul, eqb-true}
use Rattle.std.proofs.Math.Bool.{and-false}
use Rattle.lists.specs.Lists.{same}
use Rattle.lists.specs.SameLaws.{same-eq}
use Rattle.enzyme_cuts.specs.Cutting.{Range, part, within, having, windows_from}
use Rattle.enzyme_cuts.specs.HavingLaws.{having_append}
use Rattle.enzyme_cuts.specs.Work.{RangesWithin}
use Rattle.enzyme_cuts.specs.InsideLaws.{part_length}
use Rattle.enzyme_keep.specs.declared.offering.Terms.{Terms}
use Rattle.enzyme_windows.specs.Pieces.{end_to_end}
use Rattle.enzyme_windows.specs.Shared.{SameWindow}
use Rattle.enzyme_windows.specs.Weights.{sum_to}
use Rattle.enzyme_windows.specs.StartLaws.{piece_start}
use Rattle.enzyme_once.specs.Once.{own, owns, owns_from}
use Rattle.enzyme_once.specs.SpotLaws.{spots, drop-spots}
use Rattle.enzyme_fresh.specs.LetterLaws.{site_of}
use Rattle.enzyme_fresh.specs.CountLaws.{sum_from, sum-from, own_times, own-times, own-alike, owns-times}
use Rattle.enzyme_samples.specs.Ready.{Weighted, ranges, loaded, added}
use Rattle.enzyme_parts.specs.Weighed.{weigh_zip, weigh_owns, weigh_from}

-- ---- the weights of the ranges that have the letters x, of whatever length

abbrev borne : List ℕ → List Weighted → List ℕ → ℕ
borne s [] x = 0
borne s (w ∷ ws) x = cond (same (part s w.range) x) w.times 0 + borne s ws x

-- where x has a length within the limits, so has each range that has its letters
added-borne : (s : List ℕ) (t : Terms) (ws : List Weighted) (x : List ℕ) → RangesWithin (length s) (ranges ws) → within t.minimum t.maximum (length x) ≡ true
    → added s t ws x ≡ borne s ws x
added-borne s t [] x i h = refl
added-borne s t (w ∷ ws) x i h = ap₂ (λ (a b : ℕ). a + b) (go (same (part s w.range) x) refl) (added-borne s t ws x i.2 h)
  where
    go : (b : Bool) → same (part s w.range) x ≡ b → cond (within t.minimum t.maximum (w.range.to - w.range.from) && b) w.times 0 ≡ cond b w.times 0
    go true e =
        let l : length x ≡ w.range.to - w.range.from = ap length (sym (same-eq (part s w.range) x e)) ∙ part_length s w.range i.0 i.1 in
        let g : within t.minimum t.maximum (w.range.to - w.range.from) ≡ true = rw (← l) h in
        rw g
    go false e = rw (and-false (within t.minimum t.maximum (w.range.to - w.range.from)))

borne_append : (s : List ℕ) (vs ws : List Weighted) (x : List ℕ) → borne s (vs ++ ws) x ≡ borne s vs x + borne s ws x
borne_append s [] ws x = omega arith
borne_append s (v ∷ vs) ws x = let ih = borne_append s vs ws x in omega arith

borne-loaded : (s : List ℕ) (n : ℕ) (rs : List Range) (x : List ℕ) → borne s (loaded n rs) x ≡ n * having s rs x
borne-loaded s n [] x = sym (mul-zero n)
borne-loaded s n (r ∷ rs) x = go (same (part s r) x) (borne-loaded s n rs x)
  where
    go : (b : Bool) → borne s (loaded n rs) x ≡ n * having s rs x → cond b n 0 + borne s (loaded n rs) x ≡ n * cond b (suc (having s rs x)) (having s rs x)
    go true e = let m = mul-suc n (having s rs x) in omega arith
    go false e = omega arith

-- ---- the parts of windows

-- of numbers that are the same for equal windows, the sum with the weights is the sum of all
abbrev pub WeighsAll : List (List ℕ) → (ℕ → ℕ → ℕ) → Type 0
WeighsAll ts w = (m : ℕ) (X : ℕ → ℕ) → ((i j : ℕ) → SameWindow ts (suc m) i j → X i ≡ X j) → sum_to (λ i. w m i * X i) (length ts - m) ≡ sum_to X (length ts - m)

module _ (s : List ℕ) (ts : List (List ℕ)) (whole : end_to_end ts ≡ s) (x : List ℕ) where
  zip-times : (w : ℕ → ℕ) (m i n j k : ℕ) → j ≡ i + m → k ≤ n
      → borne s (weigh_zip w m i (spots (piece_start ts) i n) (spots (piece_start ts) j k)) x ≡ sum_from (λ p. w p * own_times s ts whole x m p) i k
  zip-times w m i zero j zero e h = refl
  zip-times w m i zero j (suc k) e h = absurd (omega arith)
  zip-times w m i (suc n) j zero e h = refl
  zip-times w m i (suc n) j (suc k) e h = go (eqb (w i) 0) refl (zip-times w m (suc i) n (suc j) k (omega arith) (omega arith))
    where
      O : List Range
      O = own m (site_of ts i) (site_of ts j)

      W : List Weighted
      W = weigh_zip w m (suc i) (spots (piece_start ts) (suc i) n) (spots (piece_start ts) (suc j) k)

      S : ℕ
      S = sum_from (λ p. w p * own_times s ts whole x m p) (suc i) k

      go : (b : Bool) → eqb (w i) 0 ≡ b → borne s W x ≡ S → borne s (cond b W (loaded (w i) O ++ W)) x ≡ w i * own_times s ts whole x m i + S
      go true f ih =
          let z : w i * own_times s ts whole x m i ≡ 0 = ap (λ (a : ℕ). a * own_times s ts whole x m i) (eqb-true (w i) 0 f) ∙ zero-mul (own_times s ts whole x m i) in
          omega arith
      go false f ih =
          borne_append s (loaded (w i) O) W x
          ∙ ap₂ (λ (a b : ℕ). a + b) (borne-loaded s (w i) O x ∙ ap (λ (a : ℕ). w i * a) (own-times s ts whole x m i j e)) ih

  abbrev sites : List Range
  sites = spots (piece_start ts) 0 (length ts)

  owns-borne : (w : ℕ → ℕ) (m : ℕ) → borne s (weigh_owns w m sites) x ≡ sum_to (λ i. w i * own_times s ts whole x m i) (length ts - m)
  owns-borne w m =
      ap (λ (ps : List Range). borne s (weigh_zip w m 0 sites ps) x) (drop-spots (piece_start ts) m 0 (length ts))
      ∙ zip-times w m 0 (length ts) (0 + m) (length ts - m) refl (omega arith)
      ∙ sum-from (λ i. w i * own_times s ts whole x m i) (length ts - m)

  module _ (w : ℕ → ℕ → ℕ) (fair : WeighsAll ts w) where
    from-borne : (n m : ℕ) → borne s (weigh_from w m n sites) x ≡ having s (owns_from m n sites) x
    from-borne zero m = refl
    from-borne (suc n) m =
        borne_append s (weigh_owns (w m) m sites) (weigh_from w (suc m) n sites) x
        ∙ ap₂ (λ (a b : ℕ). a + b) (owns-borne (w m) m ∙ fair m (own_times s ts whole x m) (own-alike s ts whole x m) ∙ sym (owns-times s ts whole x m (length ts))) (from-borne n (suc m))
        ∙ sym (having_append s (owns m sites) (owns_from (suc m) n sites) x)

    -- THE LAW, with all windows in front: each once
    pub weighed_adds : (t : Terms) (n : ℕ) → RangesWithin (length s) (ranges (loaded 1 (windows_from 0 n sites) ++ weigh_from w 0 n sites)) → within t.minimum t.maximum (length x) ≡ true
        → added s t (loaded 1 (windows_from 0 n sites) ++ weigh_from w 0 n sites) x ≡ having s (windows_from 0 n sites ++ owns_from 0 n sites) x
    weighed_adds t n i h =
        added-borne s t (loaded 1 (windows_from 0 n sites) ++ weigh_from w 0 n sites) x i h
        ∙ borne_append s (loaded 1 (windows_from 0 n sites)) (weigh_from w 0 n sites) x
        ∙ ap₂ (λ (a b : ℕ). a + b) (borne-loaded s 1 (windows_from 0 n sites) x ∙ one-mul (having s (windows_from 0 n sites) x)) (from-borne n 0)
        ∙ sym (having_append s (windows_from 0 n sites) (owns_from 0 n sites) x)
