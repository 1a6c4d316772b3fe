-- What the tests of weighed letters come to, and the sum letter by letter. Assumes nothing.
use Prim.Native.Nat.{ℕ, ◌+◌, ◌≤◌, ◌<◌}
use Rattle.std.specs.Prelude.{◌≡◌, Bool, false, not, List, ◌∷◌, get_or, drop, leb, ltb, eqb, pos, Float, Ok, Err}
use Rattle.std.proofs.Common.{sym, ap, ◌∙◌, subst, arith, add-one, drop_of_length-le, drop-cons}
use Rattle.std.proofs.Math.Bool.{true, cond}
use Rattle.std.proofs.Math.ListN.{length}
use Rattle.std.specs.Float.{fin, binary32}
use Rattle.std.specs.Float.Ieee.{add, eq}
use borrow.Author.Tests.{le-leb, lt-leb, lt-ltb, le-ltb, ltb-false, eqb-true, eq-eqb, ne_eqb, not-false}
use Rattle.peptide_mass.specs.Masses.{wrong_size, mass_of, add_all, no_mass, first_no_mass, tested_letters, tested_part, weighed}
use Rattle.lists.specs.Tests.{neither}
use Rattle.records.specs.declared.refusal.Refusal.{Refusal}
use Rattle.records.specs.declared.refusal.Refusal.TheVariants.{Size, Letter, Length, Field}
use Rattle.records.specs.SearchLaws.{seek_before}
use Rattle.records.specs.TestedLaws.{passed-both, passed_first}
use Rattle.letters.specs.Letters.{capital, is_letter}
use Rattle.letters.specs.CapitalLaws.{capital_twice, letter_from, letter_to, letter_capital}
use Rattle.records.specs.Answers.{Passed, Tested}

pub size_fits : (n : ℕ) → wrong_size n ≡ false → n ≤ 64
size_fits n h = ltb-false 64 n (neither (eqb n 0) (ltb 64 n) h).1

pub mass_of_letter : (masses : List Float) (b : ℕ) → is_letter b ≡ true → eq (mass_of masses b) (fin false 0 (pos 0)) ≡ no_mass masses b
unfolding no_mass
mass_of_letter masses b e = rw e

pub mass_of_other : (masses : List Float) (b : ℕ) → is_letter b ≡ false → true ≡ no_mass masses b
unfolding no_mass
mass_of_other masses b e = rw e

pub has-mass_letter : (masses : List Float) (b : ℕ) → no_mass masses b ≡ false → is_letter b ≡ true
unfolding no_mass
has-mass_letter masses b e = not-false (is_letter b) (neither (not (is_letter b)) (eq (mass_of masses b) (fin false 0 (pos 0))) e).0

-- a small letter has the mass of its capital
pub no_mass-capital : (masses : List Float) (b : ℕ) → no_mass masses (capital b) ≡ no_mass masses b
unfolding no_mass
no_mass-capital masses b = rw (letter_capital b, capital_twice b)

-- the test at a place
abbrev pub no_mass_at : List Float → List ℕ → ℕ → Bool
no_mass_at masses letters i = no_mass masses (get_or letters i 0)

-- ---- the tests, one after the other

module _ (letters : List ℕ) (masses : List Float) where
  pub letters-size : wrong_size (length letters) ≡ true → Err Size ≡ tested_letters letters masses
  unfolding tested_letters
  letters-size e = rw e

  module _ (sized : wrong_size (length letters) ≡ false) where
    pub letters-length : (length masses ≡ 26 → ⊥) → Err Length ≡ tested_letters letters masses
    unfolding tested_letters
    letters-length h = rw (sized, ne_eqb (length masses) 26 h)

    module _ (whole : length masses ≡ 26) (bad : ℕ) (first : bad ≡ first_no_mass masses letters) where
      pub letters_letter : bad < length letters → Err (Letter bad) ≡ tested_letters letters masses
      unfolding tested_letters
      letters_letter h = rw (sized, eq-eqb (length masses) 26 whole, first, lt-ltb (first_no_mass masses letters) (length letters) (subst (λ (x : ℕ). x < length letters) first h))

      pub letters-passed : length letters ≤ bad → Passed ≡ tested_letters letters masses
      unfolding tested_letters
      letters-passed h = rw (sized, eq-eqb (length masses) 26 whole, le-ltb (first_no_mass masses letters) (length letters) (subst (λ (x : ℕ). length letters ≤ x) first h))

  -- what is known once they passed
  pub record Weighable : Type 0 where
    pub few : length letters ≤ 64
    pub whole : length masses ≡ 26
    pub good : (i : ℕ) → i < length letters → (65 ≤ capital (get_or letters i 0)) × (capital (get_or letters i 0) ≤ 90)

  pub passed_weighable : tested_letters letters masses ≡ Passed → Weighable
  unfolding tested_letters first_no_mass
  passed_weighable h =
      let bad : ℕ = first_no_mass masses letters in
      let third : Tested = cond (ltb bad (length letters)) (Err (Letter bad)) Passed in
      let second : Tested = cond (not (eqb (length masses) 26)) (Err Length) third in
      let a = passed_first (wrong_size (length letters)) Size second h in
      let b = passed_first (not (eqb (length masses) 26)) Length third a.1 in
      let c = passed_first (ltb bad (length letters)) (Letter bad) Passed b.1 in
      record { few = size_fits (length letters) a.0; whole = eqb-true (length masses) 26 (not-false (eqb (length masses) 26) b.0); good = good_at (ltb-false bad (length letters) c.0) }
    where
      good_at : length letters ≤ first_no_mass masses letters → (i : ℕ) → i < length letters → (65 ≤ capital (get_or letters i 0)) × (capital (get_or letters i 0) ≤ 90)
      good_at l i g =
          let e : is_letter (get_or letters i 0) ≡ true = has-mass_letter masses (get_or letters i 0) (seek_before (no_mass_at masses letters) 0 (length letters) i (omega arith) (omega arith)) in
          (letter_from (get_or letters i 0) e, letter_to (get_or letters i 0) e)

-- ---- a part that becomes a peptide, and the answer of a weighing

module _ (letters : List ℕ) (masses : List Float) where
  module _ (position : ℕ) where
    pub part-letters : (why : Refusal) → Err why ≡ tested_letters letters masses → Err why ≡ tested_part letters masses position
    unfolding tested_part
    part-letters why e = rw (← e)

    pub part-passed : Passed ≡ tested_letters letters masses → position ≤ 3 → Passed ≡ tested_part letters masses position
    unfolding tested_part
    part-passed e h = rw (← e, le-leb position 3 h)

    pub part_field : Passed ≡ tested_letters letters masses → 3 < position → Err (Field 0) ≡ tested_part letters masses position
    unfolding tested_part
    part_field e h = rw (← e, lt-leb position 3 h)

    pub part-fits : tested_part letters masses position ≡ Passed → length letters ≤ 64
    unfolding tested_part
    part-fits e = (passed_weighable letters masses (passed-both (tested_letters letters masses) (cond (leb position 3) Passed (Err (Field 0))) e).0).few

  module _ (water : Float) where
    pub weighed-refused : (why : Refusal) → Err why ≡ tested_letters letters masses → Err why ≡ weighed letters masses water
    unfolding weighed
    weighed-refused why e = rw (← e)

    pub weighed-passed : Passed ≡ tested_letters letters masses → Ok (add_all masses water letters) ≡ weighed letters masses water
    unfolding weighed
    weighed-passed e = rw (← e)

-- ---- the sum: what is left of the letters gives the whole

pub add-on : (masses : List Float) (sum : Float) (letters : List ℕ) (i : ℕ) → i < length letters
    → add_all masses (add binary32 sum (mass_of masses (get_or letters i 0))) (drop (i + 1) letters) ≡ add_all masses sum (drop i letters)
unfolding add_all
add-on masses sum letters i h = ap (add_all masses sum) (sym (drop-cons letters i 0 h ∙ ap (λ (k : ℕ). get_or letters i 0 ∷ drop k letters) (sym (add-one i))))

pub add_end : (masses : List Float) (sum : Float) (letters : List ℕ) (i : ℕ) → length letters ≤ i → add_all masses sum (drop i letters) ≡ sum
unfolding add_all
add_end masses sum letters i h = ap (add_all masses sum) (drop_of_length-le letters h)
