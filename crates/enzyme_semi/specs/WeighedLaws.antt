-- Weights say which windows are new, and how many each of them stands for. Assumes nothing.
use Rattle.std.specs.Prelude.{ℕ, zero, suc, ◌+◌, ◌<◌, ◌≡◌, refl, Bool, true, false, cond, List, [], ◌∷◌, ◌++◌, length, drop, ltb, eqb}
use Rattle.std.proofs.Common.{ap₂, ◌∙◌, arith, length-drop}
use Rattle.enzyme_cuts.specs.Cutting.{Range}
use Rattle.enzyme_once.specs.Once.{own}
use Rattle.enzyme_fresh.specs.Fresh.{fresh_zip, fresh_from}
use Rattle.enzyme_samples.specs.Ready.{Weighted, ranges, loaded}
use Rattle.enzyme_samples.specs.ReadyLaws.{ranges_append, ranges-loaded}
use Rattle.enzyme_parts.specs.Weighed.{weigh_zip, weigh_owns, weigh_from}

-- ---- weights that agree

weigh_zip-alike : (w v : ℕ → ℕ) (m i : ℕ) (qs ps : List Range) → ((j : ℕ) → j < i + length ps → w j ≡ v j) → weigh_zip w m i qs ps ≡ weigh_zip v m i qs ps
weigh_zip-alike w v m i [] ps h = refl
weigh_zip-alike w v m i (q ∷ qs) [] h = refl
weigh_zip-alike w v m i (q ∷ qs) (p ∷ ps) h = rw (h i (omega arith), weigh_zip-alike w v m (suc i) qs ps (λ j l. h j (omega arith)))

pub weigh_alike : (w v : ℕ → ℕ) (m : ℕ) (rs : List Range) → ((j : ℕ) → j + m < length rs → w j ≡ v j) → weigh_owns w m rs ≡ weigh_owns v m rs
weigh_alike w v m rs h = let l = length-drop m rs in weigh_zip-alike w v m 0 rs (drop m rs) (λ j g. h j (omega arith))

-- ---- a weight of 0: the window is a repeat

weigh_zip-ranges : (w f : ℕ → ℕ) (m i : ℕ) (qs ps : List Range) → ((j : ℕ) → j < i + length ps → eqb (w j) 0 ≡ ltb m (f j)) → ranges (weigh_zip w m i qs ps) ≡ fresh_zip f m i qs ps
weigh_zip-ranges w f m i [] ps h = refl
weigh_zip-ranges w f m i (q ∷ qs) [] h = refl
weigh_zip-ranges w f m i (q ∷ qs) (p ∷ ps) h = rw (← h i (omega arith)) (go (eqb (w i) 0) (weigh_zip-ranges w f m (suc i) qs ps (λ j l. h j (omega arith))))
  where
    W : List Weighted
    W = weigh_zip w m (suc i) qs ps

    F : List Range
    F = fresh_zip f m (suc i) qs ps

    go : (b : Bool) → ranges W ≡ F → ranges (cond b W (loaded (w i) (own m q p) ++ W)) ≡ cond b F (own m q p ++ F)
    go true e = e
    go false e = ranges_append (loaded (w i) (own m q p)) W ∙ ap₂ (λ (xs ys : List Range). xs ++ ys) (ranges-loaded (w i) (own m q p)) e

-- w says 0 where f says that a window is a repeat
abbrev pub SkipsAs : (ℕ → ℕ → ℕ) → (ℕ → ℕ) → ℕ → Type 0
SkipsAs w f n = (m i : ℕ) → i + m < n → eqb (w m i) 0 ≡ ltb m (f i)

pub weigh_ranges : (w : ℕ → ℕ → ℕ) (f : ℕ → ℕ) (rs : List Range) → SkipsAs w f (length rs) → (n m : ℕ) → ranges (weigh_from w m n rs) ≡ fresh_from f m n rs
weigh_ranges w f rs h zero m = refl
weigh_ranges w f rs h (suc n) m =
    let l = length-drop m rs in
    ranges_append (weigh_owns (w m) m rs) (weigh_from w (suc m) n rs)
    ∙ ap₂ (λ (xs ys : List Range). xs ++ ys) (weigh_zip-ranges (w m) f m 0 rs (drop m rs) (λ j g. h m j (omega arith))) (weigh_ranges w f rs h n (suc m))
