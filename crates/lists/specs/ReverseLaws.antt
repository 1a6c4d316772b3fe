-- What stands where in a reversed list. Assumes nothing.
use Rattle.std.specs.Prelude.{ℕ, suc, ◌-◌, ◌≤◌, ◌<◌, ◌≡◌, length, get_or}
use Rattle.std.proofs.Common.{sym, ap, ◌∙◌, ⊎_elim, arith}
use mathlib.Core.List.{List, [], ◌∷◌, reverse, reverse-cons}
use Rattle.std.proofs.lemmas.List.{length-reverse, get_or_at}
use Rattle.std.proofs.Math.ListN.{get_or-append}
use Rattle.lists.specs.Tests.{below?}

pub get_or-reverse : (l : List ℕ) (i : ℕ) → i < length l → get_or (reverse l) i 0 ≡ get_or l (length l - 1 - i) 0
get_or-reverse [] i h = absurd (omega arith)
get_or-reverse (x ∷ l) i h = ⊎_elim (λ (g : i < length l). inner g (get_or-reverse l i g)) last (below? i (length l))
  where
    inner : i < length l → get_or (reverse l) i 0 ≡ get_or l (length l - 1 - i) 0 → get_or (reverse (x ∷ l)) i 0 ≡ get_or (x ∷ l) (suc (length l) - 1 - i) 0
    inner g ih =
        let e : suc (length l) - 1 - i ≡ suc (length l - 1 - i) = omega arith in
        ap (λ (q : List ℕ). get_or q i 0) (reverse-cons x l) ∙ get_or-append (reverse l) (x ∷ []) 0 i (omega (arith, length-reverse l)) ∙ ih ∙ sym (ap (λ (k : ℕ). get_or (x ∷ l) k 0) e)

    last : length l ≤ i → get_or (reverse (x ∷ l)) i 0 ≡ get_or (x ∷ l) (suc (length l) - 1 - i) 0
    last g =
        let e : suc (length l) - 1 - i ≡ 0 = omega arith in
        ap (λ (q : List ℕ). get_or q i 0) (reverse-cons x l) ∙ get_or_at (reverse l) x [] 0 i (omega (arith, length-reverse l)) ∙ sym (ap (λ (k : ℕ). get_or (x ∷ l) k 0) e)
