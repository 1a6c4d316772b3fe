-- Worked cases of a catalogue, proved of the definitions: refusal 0 is none.
use Rattle.std.specs.Prelude.{ℕ, refl, replicate, Ok, Err}
use mathlib.Core.List.{List, [], ◌∷◌, flatten, map}
use Rattle.records.specs.Refusals.{number_of, place_of}
use Rattle.records.specs.Cases.{Case, Hold}
use Rattle.records.specs.Search.{seek}
use Rattle.catalogue_spec.specs.Names.{name_length, zeros_to, padded, names_tested, catalogue_tested}
use Rattle.records.specs.Answers.{Passed, Tested}

abbrev pub told_test : Tested → List ℕ
told_test (Ok _) = 0 ∷ 0 ∷ []
told_test (Err why) = number_of why ∷ place_of why ∷ []

-- a catalogue of these records, and what its tests answer
naming : List (List ℕ) → ℕ → ℕ → Case
naming ts number place = record { got = told_test (catalogue_tested (flatten (map padded ts))) ∷ []; want = (number ∷ place ∷ []) ∷ [] }

A : List ℕ
A = 65 ∷ []

B : List ℕ
B = 66 ∷ []

pub table : List Case
table =
    -- no names; two; the longest
    naming [] 0 0
    ∷ naming (A ∷ B ∷ []) 0 0
    ∷ naming (replicate 64 126 ∷ replicate 63 126 ∷ (33 ∷ []) ∷ []) 0 0
    -- no name: empty, a byte below 33 or above 126, a byte behind a zero
    ∷ naming ([] ∷ []) 12 0
    ∷ naming (A ∷ (65 ∷ 32 ∷ 65 ∷ []) ∷ []) 12 1
    ∷ naming (A ∷ (127 ∷ []) ∷ []) 12 1
    ∷ naming (A ∷ (66 ∷ 0 ∷ 66 ∷ []) ∷ []) 12 1
    -- an earlier name; the lowest place of both; two equal ones that are no names
    ∷ naming (A ∷ B ∷ A ∷ B ∷ []) 13 2
    ∷ naming (A ∷ [] ∷ A ∷ []) 12 1
    ∷ naming (A ∷ A ∷ [] ∷ []) 13 1
    ∷ naming ([] ∷ [] ∷ []) 12 0
    -- a record and one byte more
    ∷ naming (A ∷ replicate 65 65 ∷ []) 8 0
    ∷ []

pub cases : Hold table
unfolding seek name_length zeros_to names_tested flatten naming A B table
cases = refl
