-- What has the bytes from a place on, and 0 past their end, is their window. Assumes nothing.
use Rattle.std.specs.Prelude.{ℕ, ◌+◌, ◌-◌, ◌<◌, ◌≤◌, ◌≡◌, ◌⊎◌, List, ◌++◌, length, get_or, take, drop, replicate}
use Rattle.std.proofs.Common.{sym, ap, ◌∙◌, inl, inr, arith, length-append, length-drop, ext_get_or, get_or-take, get_or-drop, get_or-append-add, length-take-le}
use Rattle.std.proofs.lemmas.List.{length-replicate, get_or-replicate}
use Rattle.std.proofs.Math.ListN.{get_or-append, get_or-eq_default}
use Rattle.lists.specs.Tests.{below?}
use Rattle.peptide_slots.specs.Windows.{window}

pub window_is : (n from : ℕ) (xs out : List ℕ) → length out ≡ n → ((j : ℕ) → j < n → get_or out j 0 ≡ get_or xs (from + j) 0) → out ≡ window n from xs
window_is n from xs out l h =
    let z : List ℕ = replicate n 0 in
    let d : List ℕ = drop from xs in
    let k : length z ≡ n = length-replicate {A = ℕ} n 0 in
    let w : length (take n (d ++ z)) ≡ n = length-take-le n (d ++ z) (omega (arith, length-append d z)) in
    ext_get_or 0 out (take n (d ++ z)) (l ∙ sym w) (λ j g. h j (omega arith) ∙ at j (omega arith) (below? j (length d)))
  where
    at : (j : ℕ) → j < n → (j < length (drop from xs)) ⊎ (length (drop from xs) ≤ j) → get_or xs (from + j) 0 ≡ get_or (take n (drop from xs ++ replicate n 0)) j 0
    at j g (inl b) = sym (get_or-take n (drop from xs ++ replicate n 0) j 0 g ∙ get_or-append (drop from xs) (replicate n 0) 0 j b ∙ get_or-drop from xs j 0)
    at j g (inr b) =
        let s : length (drop from xs) + (j - length (drop from xs)) ≡ j = omega arith in
        get_or-eq_default xs 0 (omega (arith, length-drop from xs))
        ∙ sym
        (get_or-take n (drop from xs ++ replicate n 0) j 0 g
        ∙ ap (λ (i : ℕ). get_or (drop from xs ++ replicate n 0) i 0) (sym s)
        ∙ get_or-append-add (drop from xs) (replicate n 0) (j - length (drop from xs)) 0
        ∙ get_or-replicate n (j - length (drop from xs)) 0 0 (omega arith))
