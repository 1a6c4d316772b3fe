-- What is known where the tests of a grouping passed. Assumes nothing.
use Rattle.std.specs.Prelude.{ℕ, ◌+◌, ◌-◌, ◌*◌, ◌/◌, ◌%◌, ◌≤◌, ◌<◌, ◌≡◌, true, false, ◌&&◌, ◌||◌, List, length, get_or, ltb, leb, eqb}
use Rattle.std.proofs.Common.{arith, ltb-true, ltb-false, leb-true, eqb-true}
use Rattle.std.proofs.lemmas.Bool.{not-false}
use Rattle.lists.specs.Tests.{both, neither}
use Rattle.records.specs.declared.refusal.Refusal.TheVariants.{Size, Length, Work, Letter}
use Rattle.records.specs.TestedLaws.{passed-both, passed_first}
use Rattle.records.specs.SeekingLaws.{none_found, none-tested}
use Rattle.letters.specs.Letters.{is_letter, no_letter, first_bad}
use Rattle.letters.specs.CapitalLaws.{letter_from, letter_to}
use Rattle.catalogue_spec.specs.Names.{name_count, too_many_names, whole_names, names_tested}
use Rattle.catalogue_spec.specs.Book.{too_many_letters, bounds_of, bounds_tested, letters_tested}
use Rattle.catalogue_spec.specs.BookLaws.{passed_bounds, bounds_within}
use Rattle.enzyme_keep.specs.Digests.{good_record, start_of, end_of, position_in, decoy_in, protein_in}
use Rattle.digest_groups_spec.specs.DigestGroups.{digest_at}
use Rattle.digest_groups_words.specs.Tables.{BookLetters, DigestInside, GoodDigests}
use Rattle.digest_groups_spec.specs.DigestGrouping.{too_large, uneven, needed, good_digest, bad_digest, first_bad_digest, digests_tested, tested}
use Rattle.records.specs.Answers.{Passed}

-- ---- letters

pub passed-letters : (letters : List ℕ) → length letters ≤ 268435456 → letters_tested letters ≡ Passed → BookLetters letters
unfolding first_bad
passed-letters letters small e =
    let f : ltb (first_bad letters) (length letters) ≡ false = (passed_first (ltb (first_bad letters) (length letters)) (Letter (first_bad letters)) Passed e).0 in
    record {
      small = small;
      spelt = λ j h.
          let b : is_letter (get_or letters j 0) ≡ true = not-false _ (none_found (no_letter letters) (length letters) f j h) in
          (letter_from (get_or letters j 0) b, letter_to (get_or letters j 0) b);
    }

-- ---- digests

module _ (bounds letters : List ℕ) (proteins : ℕ) (count : length bounds ≡ proteins + 1) (bound : bounds_tested bounds (length letters) ≡ Passed) (book : BookLetters letters) where
  good_inside : (d : List ℕ) → good_digest bounds proteins d ≡ true → DigestInside bounds letters d
  good_inside d e =
      let a = both (good_record d && ltb (protein_in d) proteins) (leb (end_of d) (get_or bounds (protein_in d + 1) 0 - get_or bounds (protein_in d) 0)) e in
      let b = both (good_record d) (ltb (protein_in d) proteins) a.0 in
      let c = both (ltb (start_of d) (end_of d) && leb (end_of d) 65536 && leb (get_or d 8 0) 16 && leb (get_or d 9 0) 1 && leb (position_in d) 3) (leb (decoy_in d) 1) b.0 in
      let g = both (ltb (start_of d) (end_of d) && leb (end_of d) 65536 && leb (get_or d 8 0) 16 && leb (get_or d 9 0) 1) (leb (position_in d) 3) c.0 in
      let h = both (ltb (start_of d) (end_of d) && leb (end_of d) 65536 && leb (get_or d 8 0) 16) (leb (get_or d 9 0) 1) g.0 in
      let i = both (ltb (start_of d) (end_of d) && leb (end_of d) 65536) (leb (get_or d 8 0) 16) h.0 in
      let j = both (ltb (start_of d) (end_of d)) (leb (end_of d) 65536) i.0 in
      let p : protein_in d < proteins = ltb-true (protein_in d) proteins b.1 in
      let k : start_of d < end_of d = ltb-true (start_of d) (end_of d) j.0 in
      let w : end_of d ≤ get_or bounds (protein_in d + 1) 0 - get_or bounds (protein_in d) 0 = leb-true (end_of d) _ a.1 in
      let m : get_or bounds (protein_in d + 1) 0 ≤ length letters = bounds_within bounds (length letters) (passed_bounds bounds (length letters) bound) (protein_in d + 1) (omega arith) in
      record {
        book = book;
        rises = k;
        within = omega arith;
        ends = omega arith;
        place = leb-true (position_in d) 3 g.1;
        flag = leb-true (decoy_in d) 1 c.1;
      }

  all_inside : (ds : List ℕ) → digests_tested bounds proteins ds ≡ Passed → (i : ℕ) → i < length ds / 20 → DigestInside bounds letters (digest_at ds i)
  unfolding first_bad_digest
  all_inside ds e i h = good_inside (digest_at ds i) (not-false _ (none-tested (bad_digest bounds proteins ds) (length ds / 20) e i h))

-- ---- sizes and lengths

pub grouping_few_names : (names letters ds : List ℕ) → too_large names letters ds ≡ false → too_many_names names ≡ false
grouping_few_names names letters ds e = (neither (too_many_names names) (too_many_letters letters) (neither (too_many_names names || too_many_letters letters) (ltb 1048576 (length ds / 20)) e).0).0

pub grouping-whole-names : (names bounds ds : List ℕ) → uneven names bounds ds ≡ false → whole_names names ≡ true
grouping-whole-names names bounds ds e = (both (whole_names names) (bounds_of bounds (name_count names)) (both (whole_names names && bounds_of bounds (name_count names)) (eqb (length ds % 20) 0) (not-false _ e)).0).0

-- THE LAW
pub grouping-passed : (names bounds letters ds : List ℕ) (words : ℕ) → tested names bounds letters ds words ≡ Passed → GoodDigests bounds letters ds (length ds / 20) × (5 * (length ds / 20) ≤ words)
grouping-passed names bounds letters ds words e =
    let a = passed_first (too_large names letters ds) Size _ e in
    let b = passed_first (uneven names bounds ds) Length _ a.1 in
    let c = passed_first (ltb words (needed names ds)) Work _ b.1 in
    let d = passed-both (names_tested names) _ c.1 in
    let f = passed-both (bounds_tested bounds (length letters)) _ d.1 in
    let g = passed-both (letters_tested letters) _ f.1 in
    let s = neither (too_many_names names || too_many_letters letters) (ltb 1048576 (length ds / 20)) a.0 in
    let t = neither (too_many_names names) (too_many_letters letters) s.0 in
    let u = both (whole_names names && bounds_of bounds (name_count names)) (eqb (length ds % 20) 0) (not-false _ b.0) in
    let v = both (whole_names names) (bounds_of bounds (name_count names)) u.0 in
    let m : length bounds ≡ name_count names + 1 = eqb-true (length bounds) (name_count names + 1) v.1 in
    let w : length ds % 20 ≡ 0 = eqb-true (length ds % 20) 0 u.1 in
    let n : needed names ds ≤ words = ltb-false words (needed names ds) c.0 in
    let k : length ds / 20 ≤ 1048576 = ltb-false 1048576 (length ds / 20) s.1 in
    let book = passed-letters letters (ltb-false 268435456 (length letters) t.1) g.0 in
    (record { whole = omega arith; few = k; inside = all_inside bounds letters (name_count names) m f.0 book ds g.1 }, omega arith)
