-- What the cap comes to: with none all choices that pass are taken, else the first so many. Assumes nothing.
use Rattle.std.specs.Prelude.{ℕ, suc, ◌-◌, ◌≡◌, refl, Bool, true, false, cond, List, [], ◌∷◌, take, leb}
use Rattle.std.proofs.Common.{sym, ap, ◌∙◌, arith, leb-true, leb-false, ne_eqb}
use Rattle.std.proofs.Math.Seq.{take-nil}
use Rattle.peptide_forms.specs.Enumeration.{no_cap, up_to_cap}

pub accepted-all : (k : ℕ) (xs : List (List ℕ)) → up_to_cap no_cap k xs ≡ xs
unfolding up_to_cap
accepted-all k [] = refl
accepted-all k (c ∷ xs) = ap (λ (z : List (List ℕ)). c ∷ z) (accepted-all (suc k) xs)

pub accepted-first : (cap k : ℕ) (xs : List (List ℕ)) → (cap ≡ no_cap → ⊥) → up_to_cap cap k xs ≡ take (cap - k) xs
unfolding up_to_cap
accepted-first cap k [] h = sym (take-nil (cap - k))
accepted-first cap k (c ∷ xs) h = rw (ne_eqb cap no_cap h) (go (accepted-first cap (suc k) xs h) (leb cap k) refl)
  where
    go : up_to_cap cap (suc k) xs ≡ take (cap - suc k) xs → (b : Bool) → leb cap k ≡ b → cond b [] (c ∷ up_to_cap cap (suc k) xs) ≡ take (cap - k) (c ∷ xs)
    go r true e = let z : cap - k ≡ 0 = omega (arith, leb-true cap k e) in ap (λ (q : ℕ). take q (c ∷ xs)) (sym z)
    go r false e = let z : cap - k ≡ suc (cap - suc k) = omega (arith, leb-false cap k e) in ap (λ (y : List (List ℕ)). c ∷ y) r ∙ ap (λ (q : ℕ). take q (c ∷ xs)) (sym z)
