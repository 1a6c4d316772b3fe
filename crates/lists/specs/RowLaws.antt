-- Laws of numbers in a row. Assumes nothing.
use Rattle.std.specs.Prelude.{◌≡◌, refl, Bool, true, false, ◌⊎◌, List, [], ◌∷◌, ◌++◌, ℕ, zero, suc, ◌+◌, ◌≤◌, ◌<◌, leb, length, get_or, take, set}
use Rattle.std.proofs.Common.{sym, ap, ◌∙◌, inl, inr, zero-add, add-one, arith, leb-true, leb-false, take-suc-set}
use Rattle.lists.specs.Lists.{In, up_from}

pub length_up : (a k : ℕ) → length (up_from a k) ≡ k
length_up a zero = refl
length_up a (suc k) = ap suc (length_up (suc a) k)

pub get_or_up : (a k i : ℕ) → i < k → get_or (up_from a k) i 0 ≡ a + i
get_or_up a zero i h = absurd (omega arith)
get_or_up a (suc k) zero h = omega arith
get_or_up a (suc k) (suc i) h = get_or_up (suc a) k i (omega arith) ∙ omega arith

-- what stands among a, a + 1, .. , k numbers
pub in_up : (i a k : ℕ) → a ≤ i → i < a + k → In i (up_from a k)
in_up i a zero h m = let f : ⊥ = omega arith in absurd f
in_up i a (suc k) h m = go (leb (suc a) i) refl (in_up i (suc a) k)
  where
    go : (t : Bool) → leb (suc a) i ≡ t → (suc a ≤ i → i < suc a + k → In i (up_from (suc a) k)) → (i ≡ a) ⊎ In i (up_from (suc a) k)
    go true e r = inr (r (leb-true (suc a) i e) (omega arith))
    go false e r = inl (omega (arith, leb-false (suc a) i e))

pub up_in : (i a k : ℕ) → In i (up_from a k) → (a ≤ i) × (i < a + k)
up_in i a zero h = absurd h
up_in i a (suc k) (inl e) = (omega arith, omega arith)
up_in i a (suc k) (inr h) = let r = up_in i (suc a) k h in (omega arith, omega arith)

-- one number more
pub up-snoc : (a k : ℕ) → up_from a (suc k) ≡ up_from a k ++ ((a + k) ∷ [])
up-snoc a zero = let e : a ≡ a + 0 = omega arith in ap (λ (x : ℕ). x ∷ []) e
up-snoc a (suc k) = let e : suc a + k ≡ a + suc k = omega arith in ap (λ (l : List ℕ). a ∷ l) (up-snoc (suc a) k ∙ ap (λ (x : ℕ). up_from (suc a) k ++ (x ∷ [])) e)

-- a turn of the code that counts up
pub counting : (w : List ℕ) (i : ℕ) → i < length w → take i w ≡ up_from 0 i → take (i + 1) (set w i i) ≡ up_from 0 (i + 1)
counting w i h e = rw (add-one i, take-suc-set w i i h, e) (sym (up-snoc 0 i ∙ ap (λ (x : ℕ). up_from 0 i ++ (x ∷ [])) (zero-add i)))
