-- A number of each element of a list, added up. Assumes nothing.
use Rattle.std.specs.Prelude.{ℕ, ◌+◌, ◌≤◌, ◌≡◌, refl, Bool, true, false, cond, List, [], ◌∷◌, map}
use Rattle.std.proofs.Common.{ap, inl, inr, arith}
use Rattle.lists.specs.Lists.{In, keep, bit, count}

abbrev pub total : {A : Type 0} → (A → ℕ) → List A → ℕ
total f [] = 0
total f (x ∷ xs) = f x + total f xs

-- a count is a total
pub count-total : {A : Type 0} (p : A → Bool) (xs : List A) → count p xs ≡ total (λ (x : A). bit (p x)) xs
count-total p [] = refl
count-total p (x ∷ xs) = ap (λ (n : ℕ). bit (p x) + n) (count-total p xs)

module _ {A : Type 0} (f : A → ℕ) where
  pub total-map : {B : Type 0} (g : B → A) (xs : List B) → total f (map g xs) ≡ total (λ (x : B). f (g x)) xs
  total-map g [] = refl
  total-map g (x ∷ xs) = ap (λ (n : ℕ). f (g x) + n) (total-map g xs)

  pub total-alike : (g : A → ℕ) → ((x : A) → f x ≡ g x) → (xs : List A) → total f xs ≡ total g xs
  total-alike g e [] = refl
  total-alike g e (x ∷ xs) = omega (arith, e x, total-alike g e xs)

  pub total-zero : (xs : List A) → ((x : A) → In x xs → f x ≡ 0) → total f xs ≡ 0
  total-zero [] h = refl
  total-zero (x ∷ xs) h = omega (arith, h x (inl refl), total-zero xs (λ y i. h y (inr i)))

  pub total-keep : (p : A → Bool) (xs : List A) → total f (keep p xs) ≤ total f xs
  total-keep p [] = omega arith
  total-keep p (x ∷ xs) = go (p x) (total-keep p xs)
    where
      go : (t : Bool) → total f (keep p xs) ≤ total f xs → total f (cond t (x ∷ keep p xs) (keep p xs)) ≤ f x + total f xs
      go true h = omega arith
      go false h = omega arith
