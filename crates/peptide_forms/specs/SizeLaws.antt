-- Where no choice of n places passes, none of more places does, so that the sizes may end there. Assumes nothing.
use Prim.Native.Nat.{ℕ, zero, suc, ◌+◌}
use Rattle.std.specs.Prelude.{◌≡◌, Bool, true, false, cond, length, take, drop}
use Rattle.std.proofs.Math.Path.{refl, sym, ap}
use Rattle.std.proofs.Common.{◌∙◌, inl, inr, ⊎_elim, arith, take-append-drop, length-take-le}
use mathlib.Core.List.{List, [], ◌∷◌, ◌++◌}
use Rattle.lists.specs.KeepLaws.{keep_append}
use Rattle.lists.specs.Lists.{keep, In}
use Rattle.peptide_choices.specs.Choices.{choices_of, by_size}
use Rattle.peptide_choices.specs.KeepLaws.{keep_no}
use Rattle.peptide_choices.specs.ListingLaws.{Ascending, choices-all, choices_only}
use Rattle.peptide_forms.specs.Enumeration.{up_to_cap}
use Rattle.peptide_forms.specs.Packed.{packed_choices}
use Rattle.peptide_forms.specs.Passing.{packed_passes}
use Rattle.peptide_forms.specs.PassingLaws.{bad_append}

-- ---- the sizes from n on, k of them, until one has no choice that passes

-- the choices of one size, and those of the sizes after it unless there are none
abbrev pub and_on : List (List ℕ) → List (List ℕ) → List (List ℕ)
and_on [] more = []
and_on (c ∷ cs) more = (c ∷ cs) ++ more

unfoldable pub until_none : (List ℕ → Bool) → ℕ → ℕ → ℕ → List (List ℕ)
unfolding choices_of
until_none ok m n zero = []
until_none ok m n (suc k) = and_on (keep ok (choices_of n m 0)) (until_none ok m (suc n) k)

-- ---- laws

ascending_take : (n lo hi : ℕ) (c : List ℕ) → Ascending lo hi c → Ascending lo hi (take n c)
ascending_take zero lo hi c h = tt
ascending_take (suc n) lo hi [] h = tt
ascending_take (suc n) lo hi (a ∷ c) h = (h.0, h.1, ascending_take n (suc a) hi c h.2)

module _ (ok : List ℕ → Bool) where
  keep_nothing : (xs : List (List ℕ)) → ((c : List ℕ) → In c xs → ok c ≡ false) → keep ok xs ≡ []
  keep_nothing [] h = refl
  keep_nothing (x ∷ xs) h = keep_no ok x xs (h x (inl refl)) ∙ keep_nothing xs (λ c i. h c (inr i))

  nothing_kept : (xs : List (List ℕ)) → keep ok xs ≡ [] → (c : List ℕ) → In c xs → ok c ≡ false
  nothing_kept [] e c i = absurd i
  nothing_kept (x ∷ xs) e c i = go (nothing_kept xs) (ok x) refl e
    where
      go : (keep ok xs ≡ [] → (d : List ℕ) → In d xs → ok d ≡ false) → (b : Bool) → ok x ≡ b → cond b (x ∷ keep ok xs) (keep ok xs) ≡ [] → ok c ≡ false
      go r true q f = absurd (omega (arith, ap length f))
      go r false q f = ⊎_elim (λ (s : c ≡ x). ap ok s ∙ q) (λ (j : In c xs). r f c j) i

  -- being bad is inherited
  module _ (bad : (p q : List ℕ) → ok p ≡ false → ok (p ++ q) ≡ false) (m : ℕ) where
    pub larger_none : (n : ℕ) → keep ok (choices_of n m 0) ≡ [] → keep ok (choices_of (suc n) m 0) ≡ []
    larger_none n e = keep_nothing (choices_of (suc n) m 0) fails
      where
        fails : (c : List ℕ) → In c (choices_of (suc n) m 0) → ok c ≡ false
        fails c i =
            let r = choices_only (suc n) m 0 c i in
            let l : length (take n c) ≡ n = length-take-le n c (omega (arith, r.1)) in
            let j : In (take n c) (choices_of n m 0) = choices-all n m 0 (take n c) (ascending_take n 0 (0 + m) c r.0) l in
            ap ok (sym (take-append-drop n c)) ∙ bad (take n c) (drop n c) (nothing_kept (choices_of n m 0) e (take n c) j)

    pub sizes-none : (n k : ℕ) → keep ok (choices_of n m 0) ≡ [] → keep ok (by_size m n k) ≡ []
    unfolding by_size
    sizes-none n zero e = refl
    sizes-none n (suc k) e =
        keep_append ok (choices_of n m 0) (by_size m (suc n) k)
        ∙ ap (λ (z : List (List ℕ)). z ++ keep ok (by_size m (suc n) k)) e
        ∙ sizes-none (suc n) k (larger_none n e)

    -- what a loop lists that ends at the first size of which no choice passes is what the definition lists
    pub until_none_lem : (n k : ℕ) → until_none ok m n k ≡ keep ok (by_size m n k)
    unfolding until_none by_size
    until_none_lem n zero = refl
    until_none_lem n (suc k) = go (keep ok (choices_of n m 0)) refl (until_none_lem (suc n) k) ∙ sym (keep_append ok (choices_of n m 0) (by_size m (suc n) k))
      where
        go : (here : List (List ℕ)) → keep ok (choices_of n m 0) ≡ here → until_none ok m (suc n) k ≡ keep ok (by_size m (suc n) k) → and_on here (until_none ok m (suc n) k) ≡ here ++ keep ok (by_size m (suc n) k)
        go [] e r = sym (sizes-none (suc n) k (larger_none n e))
        go (c ∷ cs) e r = ap (λ (z : List (List ℕ)). (c ∷ cs) ++ z) r

-- ---- the choices that pass

module _ (sites rules : List ℕ) where
  pub none_larger : (m n : ℕ) → keep (packed_passes sites rules) (choices_of n m 0) ≡ [] → keep (packed_passes sites rules) (choices_of (suc n) m 0) ≡ []
  none_larger m n e = larger_none (packed_passes sites rules) (bad_append sites rules) m n e

  pub choices-until : (limit cap : ℕ) → packed_choices sites rules limit cap ≡ [] ∷ up_to_cap cap 1 (until_none (packed_passes sites rules) (length sites) 1 limit)
  unfolding packed_choices
  choices-until limit cap = ap (λ (z : List (List ℕ)). [] ∷ up_to_cap cap 1 z) (sym (until_none_lem (packed_passes sites rules) (bad_append sites rules) (length sites) 1 limit))
