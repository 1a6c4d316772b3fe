-- What is known of a sequence book that passed its tests. Assumes nothing.
use Rattle.std.specs.Prelude.{ℕ, zero, suc, ◌+◌, ◌-◌, ◌≤◌, ◌<◌, ◌≡◌, refl, false, List, length, get_or, ltb, eqb}
use Rattle.std.proofs.Common.{sym, ◌∙◌, ⊎_elim, arith, ltb-false, eq-eqb, ne_eqb, eqb-true}
use Rattle.std.proofs.lemmas.Bool.{eqb-false, not-false}
use Rattle.lists.specs.Tests.{neither, same?}
use Rattle.records.specs.declared.refusal.Refusal.TheVariants.{Field}
use Rattle.records.specs.Tested.{field_tested}
use Rattle.records.specs.TestedLaws.{passed_first}
use Rattle.records.specs.SeekingLaws.{none-tested}
use Rattle.catalogue_spec.specs.Book.{strays, ends_wrong, bad_bound, first_bad_bound, bounds_tested}
use Rattle.records.specs.Answers.{Passed}

pub record Book (bounds : List ℕ) (count : ℕ) : Type 0 where
  pub some : 0 < length bounds
  pub first : get_or bounds 0 0 ≡ 0
  -- never falling, rising by at most 65,536
  pub rises : (i : ℕ) → i + 1 < length bounds → get_or bounds i 0 ≤ get_or bounds (i + 1) 0
  pub short : (i : ℕ) → i + 1 < length bounds → get_or bounds (i + 1) 0 ≤ get_or bounds i 0 + 65536
  pub last : (i : ℕ) → i + 1 ≡ length bounds → get_or bounds i 0 ≡ count

pub passed_bounds : (bounds : List ℕ) (count : ℕ) → bounds_tested bounds count ≡ Passed → Book bounds count
unfolding first_bad_bound
passed_bounds bounds count p = record {
  some = some;
  first = eqb-true _ _ (not-false _ (good 0 some).0);
  rises = λ i h. ltb-false _ _ (step i h).0;
  short = λ i h. ltb-false _ _ (step i h).1;
  last = λ i h. eqb-true _ _ (not-false _ (rw (eq-eqb (i + 1) (length bounds) h) at (good i (omega arith)).1));
}
  where
    a : (eqb (length bounds) 0 ≡ false) × (field_tested (first_bad_bound bounds count) (length bounds) ≡ Passed)
    a = passed_first (eqb (length bounds) 0) (Field 0) (field_tested (first_bad_bound bounds count) (length bounds)) p

    some : 0 < length bounds
    some = ⊎_elim (λ (e : length bounds ≡ 0). absurd (eqb-false _ _ a.0 e)) (λ (e : length bounds ≡ 0 → ⊥). positive (length bounds) e) (same? (length bounds) 0)
      where
        positive : (n : ℕ) → (n ≡ 0 → ⊥) → 0 < n
        positive zero f = absurd (f refl)
        positive (suc n) f = omega arith

    good : (i : ℕ) → i < length bounds → (strays bounds i ≡ false) × (ends_wrong bounds count i ≡ false)
    good i h = neither (strays bounds i) (ends_wrong bounds count i) (none-tested (bad_bound bounds count) (length bounds) a.1 i h)

    step : (i : ℕ) → i + 1 < length bounds → (ltb (get_or bounds (i + 1) 0) (get_or bounds i 0) ≡ false) × (ltb (get_or bounds i 0 + 65536) (get_or bounds (i + 1) 0) ≡ false)
    step i h =
        let e : eqb (i + 1) 0 ≡ false = ne_eqb (i + 1) 0 (λ z. omega arith) in
        let f : (i + 1) - 1 ≡ i = omega arith in
        neither _ _ (rw (e, f) at (good (i + 1) h).0)

module _ (bounds : List ℕ) (count : ℕ) (book : Book bounds count) where
  -- a boundary is at most each later one
  pub bounds_rise : (i k : ℕ) → i + k < length bounds → get_or bounds i 0 ≤ get_or bounds (i + k) 0
  bounds_rise i zero h = let e : i + 0 ≡ i = omega arith in rw e (omega arith)
  bounds_rise i (suc k) h =
      let e : i + suc k ≡ i + k + 1 = omega arith in
      rw e (omega (arith, bounds_rise i k (omega arith), book.rises (i + k) (omega arith)))

  -- and at most the letter count
  pub bounds_within : (i : ℕ) → i < length bounds → get_or bounds i 0 ≤ count
  bounds_within i h =
      let k : ℕ = length bounds - 1 - i in
      let e : i + k + 1 ≡ length bounds = omega arith in
      omega (arith, bounds_rise i k (omega arith), book.last (i + k) e)

  -- a protein's stretch lies within the letters and has at most 65,536
  pub protein-stretch : (p : ℕ) → p + 1 < length bounds
      → (get_or bounds p 0 ≤ get_or bounds (p + 1) 0) × (get_or bounds (p + 1) 0 ≤ count) × (get_or bounds (p + 1) 0 - get_or bounds p 0 ≤ 65536)
  protein-stretch p h =
      let s = book.short p h in
      (book.rises p h, bounds_within (p + 1) h, omega arith)

-- for the code: one boundary more than proteins
pub bounds_counted : (n p : ℕ) → (n ≡ 0 → ⊥) → eqb (n - 1) p ≡ eqb n (p + 1)
bounds_counted n p some = ⊎_elim (λ (e : n ≡ p + 1). eq-eqb (n - 1) p (omega arith) ∙ sym (eq-eqb n (p + 1) e)) other (same? n (p + 1))
  where
    other : (n ≡ p + 1 → ⊥) → eqb (n - 1) p ≡ eqb n (p + 1)
    other f = ne_eqb (n - 1) p (λ e. f (back n some e)) ∙ sym (ne_eqb n (p + 1) f)
      where
        back : (m : ℕ) → (m ≡ 0 → ⊥) → m - 1 ≡ p → m ≡ p + 1
        back zero g e = absurd (g refl)
        back (suc m) g e = omega arith
