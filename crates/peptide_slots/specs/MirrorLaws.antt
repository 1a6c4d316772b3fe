-- What stands where in a mirrored list; mirroring twice gives the list back. Assumes nothing.
use Rattle.std.specs.Prelude.{ℕ, ◌+◌, ◌-◌, ◌≤◌, ◌<◌, max, ◌≡◌, List, ◌∷◌, ◌++◌, Bool, ◌&&◌, ◌⊎◌, take, eqb}
use Rattle.std.proofs.Common.{sym, ◌∙◌, inl, inr, ⊎_elim, drop_of_length-le, add-one, drop-cons, get_or-take, ext_get_or, length-take-le}
use Rattle.std.proofs.Math.Path.{ap}
use Rattle.std.proofs.Math.Bool.{and-true, and_assoc}
use native.Mathlib.Omega.{arith}
use Rattle.std.proofs.Math.Decide.{dec_lt}
use Rattle.std.proofs.Math.ListN.{length, get_or, drop, length-append, length-drop, get_or-append}
use Rattle.std.proofs.Math.Seq.{get_or-append-add, get_or-drop}
use Rattle.lists.specs.FrameLaws.{Framed}
use Rattle.lists.specs.Tests.{below?}
use Rattle.letters.specs.Reversal.{reversed}
use Rattle.letters.specs.ReversalLaws.{length-reversed, reversed-first, reversed-last, reversed_inner}
use Rattle.peptide_slots.specs.Mirror.{mirror, all_zero}

-- out is xs with the places from 1 up to i turned round within the first n
pub record MirroredTo (n i : ℕ) (xs out : List ℕ) : Type 0 where
  pub len : length out ≡ length xs
  pub inner : (k : ℕ) → 1 ≤ k → k < i → get_or out k 0 ≡ get_or xs (n - 1 - k) 0
  pub outer : Framed 1 i xs out

-- where turning ends
abbrev pub until : ℕ → ℕ
until n = max 1 (n - 1)

-- ---- the definition, place by place
module _ (n : ℕ) (xs : List ℕ) (fits : n ≤ length xs) where
  front : length (take n xs) ≡ n
  front = length-take-le n xs fits

  turned : length (reversed (take n xs)) ≡ n
  turned = length-reversed (take n xs) ∙ front

  within : (k : ℕ) → k < n → get_or (mirror n xs) k 0 ≡ get_or (reversed (take n xs)) k 0
  unfolding mirror
  within k h = get_or-append (reversed (take n xs)) (drop n xs) 0 k (omega (arith, turned))

  past : (k : ℕ) → n ≤ k → get_or (mirror n xs) k 0 ≡ get_or xs k 0
  unfolding mirror
  past k h =
      let e : k ≡ length (reversed (take n xs)) + (k - n) = omega (arith, turned) in
      let f : n + (k - n) ≡ k = omega arith in
      ap (λ (z : ℕ). get_or (reversed (take n xs) ++ drop n xs) z 0) e
      ∙ get_or-append-add (reversed (take n xs)) (drop n xs) (k - n) 0
      ∙ get_or-drop n xs (k - n) 0
      ∙ ap (λ (z : ℕ). get_or xs z 0) f

  mirror-length : length (mirror n xs) ≡ length xs
  unfolding mirror
  mirror-length = length-append (reversed (take n xs)) (drop n xs) ∙ omega (arith, turned, length-drop n xs)

  mirror_inner : (k : ℕ) → 1 ≤ k → k < until n → get_or (mirror n xs) k 0 ≡ get_or xs (n - 1 - k) 0
  mirror_inner k a b =
      within k (omega arith)
      ∙ reversed_inner (take n xs) k a (omega (arith, front))
      ∙ ap (λ (z : ℕ). get_or (take n xs) (z - 1 - k) 0) front
      ∙ get_or-take n xs (n - 1 - k) 0 (omega arith)

  mirror_outer : (k : ℕ) → (k < 1) ⊎ (until n ≤ k) → get_or (mirror n xs) k 0 ≡ get_or xs k 0
  mirror_outer k o = ⊎_elim (λ (h : k < n). within k h ∙ end h o ∙ get_or-take n xs k 0 h) (past k) (below? k n)
    where
      end : k < n → (k < 1) ⊎ (until n ≤ k) → get_or (reversed (take n xs)) k 0 ≡ get_or (take n xs) k 0
      end h (inl a) = let e : k ≡ 0 = omega arith in rw e (reversed-first (take n xs))
      end h (inr a) = reversed-last (take n xs) k (omega (arith, front))

  pub mirror-turned : MirroredTo n (until n) xs (mirror n xs)
  mirror-turned = record { len = mirror-length; inner = mirror_inner; outer = mirror_outer }

-- ---- one list only
pub mirrored_one : (n i : ℕ) (xs a b : List ℕ) → MirroredTo n i xs a → MirroredTo n i xs b → a ≡ b
mirrored_one n i xs a b p q = ext_get_or 0 a b (p.len ∙ sym q.len) (λ k h. go k (dec_lt k 1) (dec_lt k i))
  where
    go : (k : ℕ) → Dec (k < 1) → Dec (k < i) → get_or a k 0 ≡ get_or b k 0
    go k (yes u) v = p.outer k (inl u) ∙ sym (q.outer k (inl u))
    go k (no u) (yes v) = let n : k < 1 → ⊥ = u in (p.inner k (omega arith) v ∙ sym (q.inner k (omega arith) v))
    go k (no u) (no v) = let n : k < i → ⊥ = v in (p.outer k (inr (omega arith)) ∙ sym (q.outer k (inr (omega arith))))

-- ---- twice gives the list back
pub mirror-mirror : (n : ℕ) (xs : List ℕ) → n ≤ length xs → mirror n (mirror n xs) ≡ xs
mirror-mirror n xs h = ext_get_or 0 (mirror n (mirror n xs)) xs (q.len ∙ p.len) (λ k g. go k (dec_lt k 1) (dec_lt k (until n)))
  where
    p : MirroredTo n (until n) xs (mirror n xs)
    p = mirror-turned n xs h

    q : MirroredTo n (until n) (mirror n xs) (mirror n (mirror n xs))
    q = mirror-turned n (mirror n xs) (rw p.len h)

    go : (k : ℕ) → Dec (k < 1) → Dec (k < until n) → get_or (mirror n (mirror n xs)) k 0 ≡ get_or xs k 0
    go k (yes u) v = q.outer k (inl u) ∙ p.outer k (inl u)
    go k (no u) (yes v) =
        let w : k < 1 → ⊥ = u in
        let e : n - 1 - (n - 1 - k) ≡ k = omega arith in
        q.inner k (omega arith) v ∙ p.inner (n - 1 - k) (omega arith) (omega arith) ∙ ap (λ (z : ℕ). get_or xs z 0) e
    go k (no u) (no v) = let w : k < until n → ⊥ = v in (q.outer k (inr (omega arith)) ∙ p.outer k (inr (omega arith)))

-- ---- zeros
cut : (xs : List ℕ) (i : ℕ) → i < length xs → drop i xs ≡ get_or xs i 0 ∷ drop (i + 1) xs
cut xs i h = drop-cons xs i 0 h ∙ ap (λ (z : ℕ). get_or xs i 0 ∷ drop z xs) (sym (add-one i))

pub zero-on : (b : Bool) (xs : List ℕ) (i : ℕ) → i < length xs → (b && eqb (get_or xs i 0) 0) && all_zero (drop (i + 1) xs) ≡ b && all_zero (drop i xs)
unfolding all_zero
zero-on b xs i h = and_assoc b (eqb (get_or xs i 0) 0) (all_zero (drop (i + 1) xs)) ∙ ap (λ (z : List ℕ). b && all_zero z) (sym (cut xs i h))

pub zero_end : (b : Bool) (xs : List ℕ) (i : ℕ) → length xs ≤ i → b ≡ b && all_zero (drop i xs)
unfolding all_zero
zero_end b xs i h = sym (ap (λ (z : List ℕ). b && all_zero z) (drop_of_length-le xs h) ∙ and-true b)
