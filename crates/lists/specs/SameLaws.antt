-- `same` is equality. Assumes nothing.
use Rattle.std.specs.Prelude.{ℕ, suc, ◌≡◌, refl, Bool, true, false, ◌&&◌, List, [], ◌∷◌, eqb, length}
use Rattle.std.proofs.Common.{ap, eqb-true, eq-eqb}
use Rattle.std.proofs.Math.Bool.{and-false}
use Rattle.lists.specs.Tests.{clash}
use Rattle.lists.specs.Lists.{same}

pub same_refl : (l : List ℕ) → same l l ≡ true
same_refl [] = refl
same_refl (x ∷ xs) = simp (eq-eqb x x refl, same_refl xs)

pub same-eq : (l m : List ℕ) → same l m ≡ true → l ≡ m
same-eq [] [] e = refl
same-eq [] (y ∷ ys) e = clash e refl
same-eq (x ∷ xs) [] e = clash e refl
same-eq (x ∷ xs) (y ∷ ys) e = go (eqb x y) refl e (same-eq xs ys)
  where
    go : (t : Bool) → eqb x y ≡ t → (t && same xs ys) ≡ true → (same xs ys ≡ true → xs ≡ ys) → ◌≡◌ {A = List ℕ} (x ∷ xs) (y ∷ ys)
    go true p q r = let a : x ≡ y = eqb-true x y p in let b : xs ≡ ys = r q in cc
    go false p q r = clash q refl

-- lists of different lengths
pub same_short : (a b : List ℕ) → (length a ≡ length b → ⊥) → same a b ≡ false
same_short [] [] h = absurd (h refl)
same_short [] (y ∷ ys) h = refl
same_short (x ∷ xs) [] h = refl
same_short (x ∷ xs) (y ∷ ys) h = rw (same_short xs ys (λ e. h (ap suc e))) (and-false (eqb x y))
