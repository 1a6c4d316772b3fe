-- What the tests of a digest come to, and what is known once they passed. Assumes nothing.
use Prim.Native.Nat.{ℕ, ◌+◌, ◌-◌, ◌≤◌, ◌<◌}
use Rattle.std.specs.Prelude.{◌≡◌, Bool, true, not, ◌&&◌, List, get_or, take, drop, Float, Err}
use Rattle.std.proofs.Common.{ap, ◌∙◌, subst, arith, get_or-take, get_or-drop}
use Rattle.std.proofs.Math.Bool.{false, cond}
use Rattle.std.proofs.Math.ListN.{length}
use Rattle.std.proofs.Math.Dec.{leb, ltb, eqb}
use borrow.Author.Tests.{le-leb, leb-true, lt-ltb, le-ltb, ltb-true, ltb-false, eqb-true, not-false}
use Rattle.peptide_mass.specs.Masses.{no_mass}
use Rattle.peptide_digests.specs.DigestTests.{too_long, not_whole, unfit, first_unfit, tested_digest}
use Rattle.lists.specs.Tests.{both, neither}
use Rattle.records.specs.declared.refusal.Refusal.TheVariants.{Size, Letter, Length, Field}
use Rattle.records.specs.SearchLaws.{seek_before}
use Rattle.records.specs.TestedLaws.{passed_first, passed-second}
use Rattle.letters.specs.Letters.{is_letter}
use Rattle.enzyme_keep.specs.Digests.{good_record, start_of, end_of, position_in}
use Rattle.records.specs.Answers.{Passed, Tested}

-- ---- the tests, one after the other

pub unfit_inside : (masses : List Float) (inside : Bool) (b : ℕ) → inside ≡ true → no_mass masses b ≡ unfit masses inside b
unfolding unfit
unfit_inside masses inside b e = rw e

pub unfit_outside : (masses : List Float) (inside : Bool) (b : ℕ) → inside ≡ false → not (is_letter b) ≡ unfit masses inside b
unfolding unfit
unfit_outside masses inside b e = rw e

-- the test at a place
abbrev pub unfit_at : List Float → ℕ → ℕ → List ℕ → ℕ → Bool
unfit_at masses start end s i = unfit masses (leb start i && ltb i end) (get_or s i 0)

pub whole-masses : (r : List ℕ) (masses : List Float) → not_whole r masses ≡ false → length masses ≡ 26
whole-masses r masses e = eqb-true (length masses) 26 (both (eqb (length r) 20) (eqb (length masses) 26) (not-false (eqb (length r) 20 && eqb (length masses) 26) e)).1

module _ (s r : List ℕ) (masses : List Float) where
  pub tested-digest-size : too_long s r ≡ true → Err Size ≡ tested_digest s r masses
  unfolding tested_digest
  tested-digest-size e = rw e

  module _ (sized : too_long s r ≡ false) where
    pub tested-digest-length : not_whole r masses ≡ true → Err Length ≡ tested_digest s r masses
    unfolding tested_digest
    tested-digest-length e = rw (sized, e)

    module _ (whole : not_whole r masses ≡ false) (bad : ℕ) (first : bad ≡ first_unfit masses (start_of r) (end_of r) s) where
      pub tested-digest_letter : bad < length s → Err (Letter bad) ≡ tested_digest s r masses
      unfolding tested_digest
      tested-digest_letter h = rw (sized, whole, first, lt-ltb (first_unfit masses (start_of r) (end_of r) s) (length s) (subst (λ (x : ℕ). x < length s) first h))

      module _ (fit : length s ≤ bad) where
        pub tested-digest-passed : (good_record r && leb (end_of r) (length s)) ≡ true → Passed ≡ tested_digest s r masses
        unfolding tested_digest
        tested-digest-passed e = rw (sized, whole, le-ltb (first_unfit masses (start_of r) (end_of r) s) (length s) (subst (λ (x : ℕ). length s ≤ x) first fit), e)

        pub tested-digest-field : (good_record r && leb (end_of r) (length s)) ≡ false → Err (Field 0) ≡ tested_digest s r masses
        unfolding tested_digest
        tested-digest-field e = rw (sized, whole, le-ltb (first_unfit masses (start_of r) (end_of r) s) (length s) (subst (λ (x : ℕ). length s ≤ x) first fit), e)

-- ---- what is known once they passed

first_and_fifth : (a b c d e f : Bool) → (a && b && c && d && e && f) ≡ true → (a ≡ true) × (e ≡ true)
first_and_fifth a b c d e f h =
    let x = both (a && b && c && d && e) f h in
    let y = both (a && b && c && d) e x.0 in
    ((both a b (both (a && b) c (both (a && b && c) d y.0).0).0).0, y.1)

module _ (s r : List ℕ) (masses : List Float) where
  abbrev pub range_in : List ℕ
  range_in = take (end_of r - start_of r) (drop (start_of r) s)

  pub record Digestible : Type 0 where
    pub rises : start_of r < end_of r
    pub within : end_of r ≤ length s
    pub few : end_of r ≤ start_of r + 64
    pub placed : position_in r ≤ 3
    pub whole : length masses ≡ 26
    pub fit : (i : ℕ) → i < end_of r - start_of r → no_mass masses (get_or range_in i 0) ≡ false

  pub passed_digestible : tested_digest s r masses ≡ Passed → Digestible
  unfolding tested_digest first_unfit
  passed_digestible h =
      let bad : ℕ = first_unfit masses (start_of r) (end_of r) s in
      let last : Tested = cond (good_record r && leb (end_of r) (length s)) Passed (Err (Field 0)) in
      let third : Tested = cond (ltb bad (length s)) (Err (Letter bad)) last in
      let second : Tested = cond (not_whole r masses) (Err Length) third in
      let a = passed_first (too_long s r) Size second h in
      let b = passed_first (not_whole r masses) Length third a.1 in
      let c = passed_first (ltb bad (length s)) (Letter bad) last b.1 in
      let d = passed-second (good_record r && leb (end_of r) (length s)) (Field 0) Passed c.1 in
      let g = both (good_record r) (leb (end_of r) (length s)) d.0 in
      let f = first_and_fifth (ltb (start_of r) (end_of r)) (leb (end_of r) 65536) (leb (get_or r 8 0) 16) (leb (get_or r 9 0) 1) (leb (get_or r 10 0) 3) (leb (get_or r 11 0) 1) g.0 in
      record {
        rises = ltb-true (start_of r) (end_of r) f.0;
        within = leb-true (end_of r) (length s) g.1;
        few = few_of a.0 b.0;
        placed = leb-true (position_in r) 3 f.1;
        whole = whole-masses r masses b.0;
        fit = fit_at (leb-true (end_of r) (length s) g.1) (ltb-false bad (length s) c.0);
      }
    where
      few_of : too_long s r ≡ false → not_whole r masses ≡ false → end_of r ≤ start_of r + 64
      few_of e w =
          let x = neither (ltb 65536 (length s)) (eqb (length r) 20 && ltb (start_of r + 64) (end_of r)) e in
          let y = both (eqb (length r) 20) (eqb (length masses) 26) (not-false (eqb (length r) 20 && eqb (length masses) 26) w) in
          ltb-false (start_of r + 64) (end_of r) (rw y.0 at x.1)

      fit_at : end_of r ≤ length s → length s ≤ first_unfit masses (start_of r) (end_of r) s → (i : ℕ) → i < end_of r - start_of r → no_mass masses (get_or range_in i 0) ≡ false
      fit_at w l i g =
          let j : ℕ = start_of r + i in
          let e : (leb (start_of r) j && ltb j (end_of r)) ≡ true = rw (le-leb (start_of r) j (omega arith), lt-ltb j (end_of r) (omega arith)) in
          ap (no_mass masses) (get_or-take (end_of r - start_of r) (drop (start_of r) s) i 0 g ∙ get_or-drop (start_of r) s i 0)
          ∙ unfit_inside masses (leb (start_of r) j && ltb j (end_of r)) (get_or s j 0) e
          ∙ seek_before (unfit_at masses (start_of r) (end_of r) s) 0 (length s) j (omega arith) (omega arith)
