-- Lists read back place by place. Assumes nothing.
use Rattle.std.specs.Prelude.{◌≡◌, refl, List, [], ◌∷◌, map, ℕ, zero, suc, length, get_or}
use Rattle.std.proofs.Common.{ap, ◌∙◌, arith}
use Rattle.lists.specs.Lists.{up_from}
use Rattle.cover_spec.specs.Cover.{Edge}
use Rattle.protein_groups_spec.specs.CountingLaws.{metas_in, groups_in}
use Rattle.protein_groups_spec.specs.LeaderLaws.{walk_by}

pub map_shift : {A : Type 0} (f : ℕ → A) (a n : ℕ) → map f (up_from (suc a) n) ≡ map (λ i. f (suc i)) (up_from a n)
map_shift f a zero = refl
map_shift {A} f a (suc n) = ap (λ (l : List A). f (suc a) ∷ l) (map_shift f (suc a) n)

pub read-edges : (es : List Edge) → map (λ (i : ℕ). (get_or (groups_in es) i 0, get_or (metas_in es) i 0)) (up_from 0 (length es)) ≡ es
read-edges [] = refl
read-edges (e ∷ es) =
    ap (λ (l : List Edge). e ∷ l)
    (map_shift (λ (i : ℕ). (get_or (groups_in (e ∷ es)) i 0, get_or (metas_in (e ∷ es)) i 0)) 0 (length es) ∙ read-edges es)

pub read_walk : {A : Type 0} (f : ℕ → ℕ → A) (gs xs : List ℕ) → length gs ≡ length xs
    → map (λ (i : ℕ). f (get_or gs i 0) (get_or xs i 0)) (up_from 0 (length gs)) ≡ walk_by f gs xs
read_walk f [] xs h = refl
read_walk f (g ∷ gs) [] h = let z : ⊥ = omega arith in absurd z
read_walk {A} f (g ∷ gs) (x ∷ xs) h =
    ap (λ (l : List A). f g x ∷ l)
    (map_shift (λ (i : ℕ). f (get_or (g ∷ gs) i 0) (get_or (x ∷ xs) i 0)) 0 (length gs) ∙ read_walk f gs xs (omega arith))
