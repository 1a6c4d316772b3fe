-- Laws of reversal. Assumes nothing.
use Rattle.std.specs.Prelude.{ℕ, ◌+◌, ◌-◌, ◌≤◌, ◌<◌, ◌≡◌, refl, Bool, true, false, cond, ◌||◌, ◌⊎◌, List, length, get_or, set, ltb, eqb, Err}
use Rattle.std.proofs.Common.{sym, ap, ◌∙◌, inl, inr, ⊎_elim, arith, length-set, get_or-set_same, get_or-set_other, ext_get_or}
use Rattle.std.proofs.lemmas.Bool.{eqb-false}
use Rattle.lists.specs.Tests.{below?, same?}
use Rattle.records.specs.declared.refusal.Refusal.TheVariants.{Size}
use Rattle.letters.specs.Reversal.{reversed}
use Rattle.letters.specs.ReversalLaws.{length-reversed, reversed-first, reversed-last, reversed_inner}
use Rattle.enzyme_spec.specs.Reversal.{stretch_tested}
use Rattle.records.specs.Answers.{Passed, Tested}

-- ---- reversal in place: the places before i and from j on hold the reversed letters, those between them the old ones

pub record Flipped (s : List ℕ) (i j : ℕ) (out : List ℕ) : Type 0 where
  pub same_length : length out ≡ length s
  pub some : 0 < i
  pub sum : i + j ≡ length s
  pub done : (x : ℕ) → (x < i) ⊎ (j ≤ x) → x < length s → get_or out x 0 ≡ get_or (reversed s) x 0
  pub left : (x : ℕ) → i ≤ x → x < j → get_or out x 0 ≡ get_or s x 0

pub flipped_start : (s : List ℕ) → 0 < length s → Flipped s 1 (length s - 1) s
flipped_start s h = record {
  same_length = refl;
  some = omega arith;
  sum = omega arith;
  done = λ x e g. ⊎_elim (λ (l : x < 1). let z : x ≡ 0 = omega arith in rw z (sym (reversed-first s))) (λ (l : length s - 1 ≤ x). sym (reversed-last s x (omega arith))) e;
  left = λ x l g. refl;
}

pub flipped_turn : (s : List ℕ) (i j : ℕ) (out : List ℕ) → Flipped s i j out → i + 1 < j
    → Flipped s (i + 1) (j - 1) (set (set out i (get_or out (j - 1) 0)) (j - 1) (get_or out i 0))
flipped_turn s i j out f h =
    let n : i + j ≡ length s = f.sum in
    record {
      same_length = length-set (set out i (get_or out (j - 1) 0)) (j - 1) (get_or out i 0) ∙ length-set out i (get_or out (j - 1) 0) ∙ f.same_length;
      some = omega arith;
      sum = omega arith;
      done = λ x e g. at x e g (same? x i) (same? x (j - 1));
      left = λ x l g. other x (λ (q : x ≡ i). omega arith) (λ (q : x ≡ j - 1). omega arith) ∙ f.left x (omega arith) (omega arith);
    }
  where
    other : (x : ℕ) → (x ≡ i → ⊥) → (x ≡ j - 1 → ⊥) → get_or (set (set out i (get_or out (j - 1) 0)) (j - 1) (get_or out i 0)) x 0 ≡ get_or out x 0
    other x p q = get_or-set_other (set out i (get_or out (j - 1) 0)) (j - 1) x (get_or out i 0) 0 q ∙ get_or-set_other out i x (get_or out (j - 1) 0) 0 p

    mirror : i + j ≡ length s → 0 < i → (x y : ℕ) → 0 < x → x + 1 < length s → y ≡ length s - 1 - x → get_or s y 0 ≡ get_or (reversed s) x 0
    mirror n p x y q r e = ap (λ (z : ℕ). get_or s z 0) e ∙ sym (reversed_inner s x q r)

    at : (x : ℕ) → (x < i + 1) ⊎ (j - 1 ≤ x) → x < length s → (x ≡ i) ⊎ (x ≡ i → ⊥) → (x ≡ j - 1) ⊎ (x ≡ j - 1 → ⊥)
        → get_or (set (set out i (get_or out (j - 1) 0)) (j - 1) (get_or out i 0)) x 0 ≡ get_or (reversed s) x 0
    at x e g p (inl q) =
        let n : i + j ≡ length s = f.sum in
        let o : 0 < i = f.some in
        rw q (get_or-set_same (set out i (get_or out (j - 1) 0)) (j - 1) (get_or out i 0) 0 (omega (arith, length-set out i (get_or out (j - 1) 0), f.same_length))
        ∙ f.left i (omega arith) (omega arith) ∙ mirror n o (j - 1) i (omega arith) (omega arith) (omega arith))
    at x e g (inl p) (inr q) =
        let n : i + j ≡ length s = f.sum in
        let o : 0 < i = f.some in
        rw p (get_or-set_other (set out i (get_or out (j - 1) 0)) (j - 1) i (get_or out i 0) 0 (λ (z : i ≡ j - 1). omega arith)
        ∙ get_or-set_same out i (get_or out (j - 1) 0) 0 (omega (arith, f.same_length))
        ∙ f.left (j - 1) (omega arith) (omega arith) ∙ mirror n o i (j - 1) (omega arith) (omega arith) (omega arith))
    at x e g (inr p) (inr q) = other x p q ∙ f.done x (⊎_elim (λ (l : x < i + 1). inl (apart l p)) (λ (l : j - 1 ≤ x). inr (beyond l q)) e) g
      where
        apart : x < i + 1 → (x ≡ i → ⊥) → x < i
        apart l p = ⊎_elim (λ (z : x < i). z) (λ (z : i ≤ x). absurd (p (omega arith))) (below? x i)

        beyond : j - 1 ≤ x → (x ≡ j - 1 → ⊥) → j ≤ x
        beyond l q = ⊎_elim (λ (z : x < j). absurd (q (omega arith))) (λ (z : j ≤ x). z) (below? x j)

pub flipped_end : (s : List ℕ) (i j : ℕ) (out : List ℕ) → Flipped s i j out → j ≤ i + 1 → out ≡ reversed s
flipped_end s i j out f h = ext_get_or 0 out (reversed s) (f.same_length ∙ sym (length-reversed s)) (λ x g. at x (omega (arith, f.same_length)) (below? x i) (below? x j))
  where
    at : (x : ℕ) → x < length s → (x < i) ⊎ (i ≤ x) → (x < j) ⊎ (j ≤ x) → get_or out x 0 ≡ get_or (reversed s) x 0
    at x g (inl l) e = f.done x (inl l) g
    at x g (inr l) (inr m) = f.done x (inr m) g
    at x g (inr l) (inl m) =
        let n : i + j ≡ length s = f.sum in
        let o : 0 < i = f.some in
        let e : x ≡ length s - 1 - x = omega arith in
        f.left x l m ∙ ap (λ (z : ℕ). get_or s z 0) e ∙ sym (reversed_inner s x (omega arith) (omega arith))

-- ---- what is known where the test passed

pub stretch-passed : (s : List ℕ) → stretch_tested s ≡ Passed → 0 < length s
stretch-passed s e = go (eqb (length s) 0) (ltb 65536 (length s)) _ refl e
  where
    go : (a b : Bool) (rest : Tested) → eqb (length s) 0 ≡ a → cond (a || b) (Err Size) rest ≡ Passed → 0 < length s
    go true b rest f e = let z : ◌≡◌ {A = ℕ} 0 1 = cc in absurd (omega arith)
    go false b rest f e = ⊎_elim (λ (h : 0 < length s). h) (λ (h : length s ≤ 0). absurd (eqb-false (length s) 0 f (omega arith))) (below? 0 (length s))
