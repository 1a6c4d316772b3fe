-- Document 01: "Base mass: water, then each residue's mass, added left to right in f32, one rounding for each addition." Of the
-- letters 2 is said "in a peptide also [of] a letter of mass zero": minus zero counts, not-a-number does not. Document 02, [2]: "the
-- zero-mass test reads the capital's entry".
use Rattle.std.specs.Prelude.{ℕ, ◌-◌, Bool, false, cond, not, ◌||◌, List, [], ◌∷◌, length, get_or, leb, ltb, eqb, pos, Float, Result, Ok, Err}
use Rattle.std.specs.Float.{nan, fin, binary32}
use Rattle.std.specs.Float.Ieee.{add, eq}
use Rattle.records.specs.declared.refusal.Refusal.{Refusal}
use Rattle.records.specs.declared.refusal.Refusal.TheVariants.{Size, Letter, Length, Field}
use Rattle.records.specs.Search.{seek}
use Rattle.letters.specs.Letters.{capital, is_letter}
use Rattle.records.specs.Tested.{and_then}
use Rattle.records.specs.Answers.{Passed, Tested}

-- what it answers, or why not
abbrev pub Weighed : Type 0
Weighed = Result Float Refusal

-- the mass of a letter, of the 26 from A on: that of its capital
abbrev pub mass_of : List Float → ℕ → Float
mass_of masses b = get_or masses (capital b - 65) nan

-- the sum so far, and the letters still to come
unfoldable pub add_all : List Float → Float → List ℕ → Float
add_all masses sum [] = sum
add_all masses sum (b ∷ bs) = add_all masses (add binary32 sum (mass_of masses b)) bs

-- ---- the tests

-- 1: an empty peptide, or one of more than 64 letters
abbrev pub wrong_size : ℕ → Bool
wrong_size n = eqb n 0 || ltb 64 n

-- a byte that is no letter, or a letter of mass zero
unfoldable pub no_mass : List Float → ℕ → Bool
unfolding is_letter capital
no_mass masses b = not (is_letter b) || eq (mass_of masses b) (fin false 0 (pos 0))

-- the index of the first such byte, or the length
unfoldable pub first_no_mass : List Float → List ℕ → ℕ
unfolding seek no_mass
first_no_mass masses letters = seek (λ (i : ℕ). no_mass masses (get_or letters i 0)) 0 (length letters)

-- 1, 8: the masses are not 26, 2
unfoldable pub tested_letters : List ℕ → List Float → Tested
unfolding first_no_mass
tested_letters letters masses =
    cond (wrong_size (length letters)) (Err Size)
    (cond (not (eqb (length masses) 26)) (Err Length)
    (cond (ltb (first_no_mass masses letters) (length letters)) (Err (Letter (first_no_mass masses letters)))
    Passed))

-- and 9: the position is none of the four
unfoldable pub tested_part : List ℕ → List Float → ℕ → Tested
unfolding tested_letters
tested_part letters masses position = and_then (tested_letters letters masses) (cond (leb position 3) Passed (Err (Field 0)))

-- ---- the answer

abbrev pub weighed_or : Tested → Float → Weighed
weighed_or (Ok _) mass = Ok mass
weighed_or (Err why) mass = Err why

unfoldable pub weighed : List ℕ → List Float → Float → Weighed
unfolding tested_letters add_all
weighed letters masses water = weighed_or (tested_letters letters masses) (add_all masses water letters)
