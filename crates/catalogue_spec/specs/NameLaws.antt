-- Laws of names and catalogues. Assumes nothing.
use Prim.Native.Nat.{ℕ, ◌+◌, ◌-◌, ◌*◌, ◌%◌, ◌≤◌, ◌<◌}
use Rattle.std.specs.Prelude.{◌≡◌, Bool, true, false, cond, ◌&&◌, ◌⊎◌, List, length, get_or, leb, ltb, eqb, Err}
use Rattle.std.proofs.Common.{sym, ap, ◌∙◌, subst, inl, inr, ⊎_elim, arith, ltb-true, ltb-false, lt-ltb, le-ltb, eqb-true, leb-true}
use Rattle.std.proofs.Math.Seq.{length-slice}
use Rattle.std.proofs.lemmas.Bool.{not-false}
use Rattle.lists.specs.Tests.{below?, both, neither, clash}
use Rattle.lists.specs.Lists.{same}
use Rattle.lists.specs.SameLaws.{same_refl}
use Rattle.records.specs.declared.refusal.Refusal.TheVariants.{Size, Length, Name, Repeat as Again}
use Rattle.records.specs.Search.{seek}
use Rattle.records.specs.SearchLaws.{seek-to, seek-passes, seek_before}
use Rattle.records.specs.SeekingLaws.{none_found}
use Rattle.sorting_spec.specs.Joined.{name_of}
use Rattle.sorting_spec.specs.Repeats.{repeats, first_repeat}
use Rattle.records.specs.TestedLaws.{passed_first, passed-second}
use Rattle.catalogue_spec.specs.Names.{hidden, non_zero, name_length, zeros_to, is_name, name_count, too_many_names, whole_names, bad_name, wrong_name, wrong_at, names_tested, catalogue_tested}
use Rattle.records.specs.Answers.{Passed, Tested}

-- what the first bad name and the first that repeats tell of n names: the lower place, at one place 12 before 13
abbrev pub lower_of : ℕ → ℕ → ℕ → Tested
lower_of bad again n = cond (ltb again bad) (Err (Again again)) (cond (ltb bad n) (Err (Name bad)) Passed)

-- ---- the search for a first place

-- a place that passes, with none before it, or the end, is the place
pub seek_is : (p : ℕ → Bool) (n r : ℕ) → r ≤ n → ((j : ℕ) → j < r → p j ≡ false) → (r < n → p r ≡ true) → seek p 0 n ≡ r
seek_is p n r h low at = ⊎_elim early (λ (g : r ≤ seek p 0 n). ⊎_elim late (λ (k : seek p 0 n ≤ r). omega arith) (below? r (seek p 0 n))) (below? (seek p 0 n) r)
  where
    early : seek p 0 n < r → seek p 0 n ≡ r
    early g = clash (seek-passes p 0 n (omega arith)) (low (seek p 0 n) g)

    late : r < seek p 0 n → seek p 0 n ≡ r
    late g = clash (at (omega (arith, seek-to p 0 n))) (seek_before p 0 n r (omega arith) g)

-- ---- the records of a catalogue

module _ (names : List ℕ) where
  pub name_end : (i : ℕ) → i < name_count names → i * 64 + 64 ≤ length names
  name_end i h = omega arith

  pub name_size : (i : ℕ) → i < name_count names → length (name_of names i) ≡ 64
  name_size i h = length-slice (i * 64) (i * 64 + 64) names (name_end i h) ∙ omega arith

  -- ---- the tests

  -- the lower of two places, the first bad name and the first that repeats
  pub tested_parts : (b r : ℕ) → b ≡ seek (bad_name names) 0 (name_count names) → r ≡ first_repeat (name_of names) (name_count names)
      → names_tested names ≡ cond (ltb r b) (Err (Again r)) (cond (ltb b (name_count names)) (Err (Name b)) Passed)
  unfolding names_tested
  tested_parts b r p q = go (below? r b) (below? b n)
    where
      n : ℕ
      n = name_count names

      high : b ≤ n
      high = omega (arith, seek-to (bad_name names) 0 n)

      good : (j : ℕ) → j < b → bad_name names j ≡ false
      good j h = seek_before (bad_name names) 0 n j (omega arith) (omega arith)

      new : (j : ℕ) → j < r → repeats (name_of names) j ≡ false
      new j h = seek_before (repeats (name_of names)) 0 n j (omega arith) (omega arith)

      right : (j : ℕ) → j < r → j < b → wrong_name names j ≡ false
      right j h k = rw (good j k, new j h)

      -- the place is found
      at : (m : ℕ) → seek (wrong_name names) 0 n ≡ m → names_tested names ≡ cond (ltb m n) (Err (wrong_at names m)) Passed
      at m e = ap (λ (x : ℕ). cond (ltb x n) (Err (wrong_at names x)) Passed) e

      go : (r < b) ⊎ (b ≤ r) → (b < n) ⊎ (n ≤ b) → names_tested names ≡ cond (ltb r b) (Err (Again r)) (cond (ltb b n) (Err (Name b)) Passed)
      go (inl g) k =
          let x : ltb r n ≡ true = lt-ltb r n (omega (arith, high)) in
          let y : bad_name names r ≡ false = good r g in
          let z : ltb r b ≡ true = lt-ltb r b g in
          let w : repeats (name_of names) r ≡ true = subst (λ (m : ℕ). repeats (name_of names) m ≡ true) (sym q) (seek-passes (repeats (name_of names)) 0 n (omega (arith, high))) in
          at r (seek_is (wrong_name names) n r (omega (arith, high)) (λ j h. right j h (omega arith)) (λ h. rw (y, w))) ∙ rw (x, y, z)
      go (inr g) (inl k) =
          let x : ltb b n ≡ true = lt-ltb b n k in
          let y : bad_name names b ≡ true = subst (λ (m : ℕ). bad_name names m ≡ true) (sym p) (seek-passes (bad_name names) 0 n (omega arith)) in
          let z : ltb r b ≡ false = le-ltb r b g in
          at b (seek_is (wrong_name names) n b high (λ j h. right j (omega arith) h) (λ h. rw y)) ∙ rw (x, y, z)
      go (inr g) (inr k) =
          let x : ltb b n ≡ false = le-ltb b n k in
          let y : ltb n n ≡ false = le-ltb n n (omega arith) in
          let z : ltb r b ≡ false = le-ltb r b g in
          at n (seek_is (wrong_name names) n n (omega arith) (λ j h. right j (omega arith) (omega arith)) (λ h. absurd (omega arith))) ∙ rw (x, y, z)

  -- where the entry asked for 1 and 8 before, the contents are left
  pub catalogue_contents : too_many_names names ≡ false → whole_names names ≡ true → catalogue_tested names ≡ names_tested names
  catalogue_contents e f = rw (e, f)

-- ---- what is known of a catalogue that passed

pub record Catalogue (names : List ℕ) : Type 0 where
  -- every record is a name
  pub good : (i : ℕ) → i < name_count names → is_name (name_of names i) ≡ true
  -- and no two are equal
  pub distinct : (i j : ℕ) → i < name_count names → j < name_count names → name_of names i ≡ name_of names j → i ≡ j

pub passed-names : (names : List ℕ) → names_tested names ≡ Passed → Catalogue names
unfolding names_tested
passed-names names p = record { good = good; distinct = distinct }
  where
    n : ℕ
    n = name_count names

    at : ℕ
    at = seek (wrong_name names) 0 (name_count names)

    none : (i : ℕ) → i < name_count names → (bad_name names i ≡ false) × (repeats (name_of names) i ≡ false)
    none i h =
        let e : ltb at n ≡ false = (passed_first (ltb at n) (wrong_at names at) Passed p).0 in
        neither (bad_name names i) (repeats (name_of names) i) (none_found (wrong_name names) n e i h)

    good : (i : ℕ) → i < name_count names → is_name (name_of names i) ≡ true
    good i h = not-false _ (none i h).0

    apart : (i j : ℕ) → j < name_count names → i < j → name_of names i ≡ name_of names j → ⊥
    apart i j h l e =
        let same? : ℕ → Bool = λ (k : ℕ). same (name_of names k) (name_of names j) in
        let f : j ≤ seek same? 0 j = ltb-false (seek same? 0 j) j (none j h).1 in
        clash (rw e (same_refl (name_of names j))) (seek_before same? 0 j i (omega arith) (omega arith))

    distinct : (i j : ℕ) → i < name_count names → j < name_count names → name_of names i ≡ name_of names j → i ≡ j
    distinct i j h k e =
        ⊎_elim (λ (l : i < j). absurd (apart i j k l e))
        (λ (l : j ≤ i). ⊎_elim (λ (m : j < i). absurd (apart j i h m (sym e))) (λ (m : i ≤ j). omega arith) (below? j i))
        (below? i j)

pub passed_catalogue : (names : List ℕ) → catalogue_tested names ≡ Passed → (name_count names ≤ 65536) × (length names % 64 ≡ 0) × Catalogue names
passed_catalogue names p =
    let a = passed_first (too_many_names names) Size (cond (whole_names names) (names_tested names) (Err Length)) p in
    let b = passed-second (whole_names names) Length (names_tested names) a.1 in
    (ltb-false _ _ a.0, eqb-true _ _ b.0, passed-names names b.1)

-- ---- what is known of a record that is a name

pub record NameRecord (r : List ℕ) : Type 0 where
  pub size : length r ≡ 64
  pub some : 0 < name_length r
  pub most : name_length r ≤ 64
  -- bytes from 33 to 126, then zeros
  pub text : (p : ℕ) → p < name_length r → (33 ≤ get_or r p 0) × (get_or r p 0 ≤ 126)
  pub zeros : (p : ℕ) → name_length r ≤ p → p < 64 → get_or r p 0 ≡ 0

pub name_record : (r : List ℕ) → is_name r ≡ true → NameRecord r
unfolding name_length zeros_to
name_record r e =
    let a = both (eqb (length r) 64 && ltb 0 (name_length r)) (eqb (zeros_to r (name_length r)) 64) e in
    let b = both (eqb (length r) 64) (ltb 0 (name_length r)) a.0 in
    let s : length r ≡ 64 = eqb-true _ _ b.0 in
    let z : zeros_to r (name_length r) ≡ 64 = eqb-true _ _ a.1 in
    record {
      size = s;
      some = ltb-true _ _ b.1;
      most = omega (arith, seek-to (hidden r) 0 (length r));
      text = λ p l. let v = both (leb 33 (get_or r p 0)) (leb (get_or r p 0) 126) (not-false _ (seek_before (hidden r) 0 (length r) p (omega arith) l)) in (leb-true _ _ v.0, leb-true _ _ v.1);
      zeros = λ p l m. eqb-true _ _ (not-false _ (seek_before (non_zero r) (name_length r) (length r - name_length r) p l (omega arith)));
    }

-- ---- for the code: the place that a sort found
