-- Laws of comparison. Assumes nothing.
use Rattle.std.specs.Prelude.{ℕ, ◌+◌, ◌*◌, ◌/◌, ◌%◌, ◌≤◌, ◌<◌, ◌≡◌, refl, Bool, true, false, ◌⊎◌, List, length, get_or}
use Rattle.std.proofs.Common.{sym, ap, ◌∙◌, inl, inr, ⊎_elim, arith, ext_get_or}
use Rattle.lists.specs.SameLaws.{same_refl, same-eq}
use Rattle.lists.specs.Tests.{below?, same?}
use Rattle.lists.specs.Lists.{same}
use Rattle.records.specs.Le.{number_at}
use Rattle.records.specs.LeLaws.{Bytes, number-four}

-- ---- a comparison four bytes at a time: it stops, goes on, ends

pub same_stop : (a b : List ℕ) (i : ℕ) → (number_at 4 a i ≡ number_at 4 b i → ⊥) → same a b ≡ false
same_stop a b i h = go (same a b) refl
  where
    go : (t : Bool) → same a b ≡ t → t ≡ false
    go true e = absurd (h (ap (λ (s : List ℕ). number_at 4 s i) (same-eq a b e)))
    go false e = refl

-- bytes that stand for the same number
digit : (x y m n : ℕ) → x < 256 → y < 256 → x + 256 * m ≡ y + 256 * n → (x ≡ y) × (m ≡ n)
digit x y m n h k e =
    let p : (x + 256 * m) % 256 ≡ x = omega arith in
    let q : (y + 256 * n) % 256 ≡ y = omega arith in
    let r : (x + 256 * m) / 256 ≡ m = omega arith in
    let s : (y + 256 * n) / 256 ≡ n = omega arith in
    (sym p ∙ ap (λ (z : ℕ). z % 256) e ∙ q, sym r ∙ ap (λ (z : ℕ). z / 256) e ∙ s)

-- the first i places agree
abbrev pub AgreeTo : List ℕ → List ℕ → ℕ → Type 0
AgreeTo a b i = (j : ℕ) → j < i → get_or a j 0 ≡ get_or b j 0

pub agree_four : (a b : List ℕ) (i : ℕ) → Bytes a → Bytes b → number_at 4 a i ≡ number_at 4 b i → AgreeTo a b i → AgreeTo a b (i + 4)
agree_four a b i p q h agree j l =
    let e : get_or a i 0 + 256 * (get_or a (i + 1) 0 + 256 * (get_or a (i + 2) 0 + 256 * get_or a (i + 3) 0)) ≡ get_or b i 0 + 256 * (get_or b (i + 1) 0 + 256 * (get_or b (i + 2) 0 + 256 * get_or b (i + 3) 0)) = sym (number-four a i) ∙ h ∙ number-four b i in
    let d₀ = digit (get_or a i 0) (get_or b i 0) (get_or a (i + 1) 0 + 256 * (get_or a (i + 2) 0 + 256 * get_or a (i + 3) 0)) (get_or b (i + 1) 0 + 256 * (get_or b (i + 2) 0 + 256 * get_or b (i + 3) 0)) (p i) (q i) e in
    let d₁ = digit (get_or a (i + 1) 0) (get_or b (i + 1) 0) (get_or a (i + 2) 0 + 256 * get_or a (i + 3) 0) (get_or b (i + 2) 0 + 256 * get_or b (i + 3) 0) (p (i + 1)) (q (i + 1)) d₀.1 in
    let d₂ = digit (get_or a (i + 2) 0) (get_or b (i + 2) 0) (get_or a (i + 3) 0) (get_or b (i + 3) 0) (p (i + 2)) (q (i + 2)) d₁.1 in
    at d₀.0 d₁.0 d₂.0 d₂.1 (below? j i) (same? j i) (same? j (i + 1)) (same? j (i + 2))
  where
    last : i ≤ j → (j ≡ i → ⊥) → (j ≡ i + 1 → ⊥) → (j ≡ i + 2 → ⊥) → j ≡ i + 3
    last m x y z = ⊎_elim (λ (k : j < i + 3). absurd (⊎_elim (λ (u : j < i + 1). x (omega arith)) (λ (u : i + 1 ≤ j). ⊎_elim (λ (v : j < i + 2). y (omega arith)) (λ (v : i + 2 ≤ j). z (omega arith)) (below? j (i + 2))) (below? j (i + 1)))) (λ (k : i + 3 ≤ j). omega arith) (below? j (i + 3))

    at : get_or a i 0 ≡ get_or b i 0 → get_or a (i + 1) 0 ≡ get_or b (i + 1) 0 → get_or a (i + 2) 0 ≡ get_or b (i + 2) 0 → get_or a (i + 3) 0 ≡ get_or b (i + 3) 0
        → (j < i) ⊎ (i ≤ j) → (j ≡ i) ⊎ (j ≡ i → ⊥) → (j ≡ i + 1) ⊎ (j ≡ i + 1 → ⊥) → (j ≡ i + 2) ⊎ (j ≡ i + 2 → ⊥) → get_or a j 0 ≡ get_or b j 0
    at f₀ f₁ f₂ f₃ (inl m) x y z = agree j m
    at f₀ f₁ f₂ f₃ (inr m) (inl x) y z = rw x f₀
    at f₀ f₁ f₂ f₃ (inr m) (inr x) (inl y) z = rw y f₁
    at f₀ f₁ f₂ f₃ (inr m) (inr x) (inr y) (inl z) = rw z f₂
    at f₀ f₁ f₂ f₃ (inr m) (inr x) (inr y) (inr z) = let k : j ≡ i + 3 = last m x y z in rw k f₃

pub agree_all : (a b : List ℕ) (i : ℕ) → length a ≡ length b → length a ≤ i → AgreeTo a b i → same a b ≡ true
agree_all a b i l h agree =
    let e : a ≡ b = ext_get_or 0 a b l (λ j g. agree j (omega arith)) in
    rw e (same_refl b)
