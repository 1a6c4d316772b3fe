-- Laws of lists. Assumes nothing.
use Rattle.std.specs.Prelude.{ℕ, suc, ◌≡◌, refl, Bool, true, false, cond, length}
use Rattle.std.proofs.Common.{ap, ◌∙◌, zero-add}
use mathlib.Core.List.{List, [], ◌∷◌, ◌++◌, flatten, map, map-append}
use Rattle.records.specs.RoomLaws.{flatten_append, flatten_one}
use Rattle.lists.specs.KeepLaws.{keep_snoc}
use Rattle.lists.specs.Lists.{up_from, keep}
use Rattle.lists.specs.RowLaws.{up-snoc}
use Rattle.report_lines_spec.specs.Stretches.{lasted}

-- one group more
module _ (f : ℕ → List ℕ) (k : ℕ) where
  pub flat_up : flatten (map f (up_from 0 (suc k))) ≡ flatten (map f (up_from 0 k)) ++ f k
  flat_up =
      ap (λ (l : List ℕ). flatten (map f l)) (up-snoc 0 k ∙ ap (λ (x : ℕ). up_from 0 k ++ (x ∷ [])) (zero-add k))
      ∙ ap flatten (map-append f (up_from 0 k) (k ∷ []))
      ∙ flatten_append (map f (up_from 0 k)) (f k ∷ [])
      ∙ ap (λ (l : List ℕ). flatten (map f (up_from 0 k)) ++ l) (flatten_one (f k))

module _ {B : Type 0} (p : ℕ → Bool) (f : ℕ → B) (k : ℕ) where
  pub kept-up : map f (keep p (up_from 0 (suc k))) ≡ map f (keep p (up_from 0 k)) ++ cond (p k) (f k ∷ []) []
  kept-up =
      ap (λ (l : List ℕ). map f (keep p l)) (up-snoc 0 k ∙ ap (λ (x : ℕ). up_from 0 k ++ (x ∷ [])) (zero-add k))
      ∙ ap (map f) (keep_snoc p (up_from 0 k) k)
      ∙ map-append f (keep p (up_from 0 k)) (cond (p k) (k ∷ []) [])
      ∙ ap (λ (l : List B). map f (keep p (up_from 0 k)) ++ l) (go (p k))
    where
      go : (t : Bool) → map f (cond t (k ∷ []) []) ≡ cond t (f k ∷ []) []
      go true = refl
      go false = refl

-- the last one of a stretch
pub lasted-snoc : (xs : List ℕ) (x : ℕ) → lasted (xs ++ (x ∷ [])) ≡ xs ++ (suc x ∷ [])
lasted-snoc [] x = refl
lasted-snoc (y ∷ []) x = refl
lasted-snoc (y ∷ z ∷ zs) x = ap (λ (l : List ℕ). y ∷ l) (lasted-snoc (z ∷ zs) x)

pub length-lasted : (xs : List ℕ) → length (lasted xs) ≡ length xs
length-lasted [] = refl
length-lasted (x ∷ []) = refl
length-lasted (x ∷ y ∷ ys) = ap suc (length-lasted (y ∷ ys))
