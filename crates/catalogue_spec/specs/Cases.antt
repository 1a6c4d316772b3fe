-- Worked cases of a sequence book and of letters alone, proved of the definitions; behind those of a catalogue. Refusal 0 is none.
use Rattle.std.specs.Prelude.{ℕ, refl, List, [], ◌∷◌, ◌++◌, replicate}
use Rattle.records.specs.Cases.{Case, Hold}
use Rattle.records.specs.CaseLaws.{joined}
use Rattle.records.specs.Search.{seek}
use Rattle.letters.specs.Letters.{is_letter, first_bad}
use Rattle.catalogue_spec.specs.Book.{first_bad_bound}
use Rattle.catalogue_spec.specs.NameCases.{told_test, table as names, cases as names_hold}
use Rattle.catalogue_spec.specs.Books.{book_tested, all_letters_tested}

-- boundaries, a number of proteins and a book of so many times A
booking : List ℕ → ℕ → ℕ → ℕ → ℕ → Case
booking bounds proteins count number place = record { got = told_test (book_tested bounds (replicate count 65) proteins) ∷ []; want = (number ∷ place ∷ []) ∷ [] }

-- the same with the letters AC and a byte
spelling : List ℕ → ℕ → ℕ → ℕ → Case
spelling bounds byte number place = record { got = told_test (book_tested bounds (65 ∷ 67 ∷ byte ∷ []) 2) ∷ []; want = (number ∷ place ∷ []) ∷ [] }

reading : List ℕ → ℕ → ℕ → Case
reading letters number place = record { got = told_test (all_letters_tested letters) ∷ []; want = (number ∷ place ∷ []) ∷ [] }

books : List Case
books =
    -- no proteins; one; an empty one between two
    booking (0 ∷ []) 0 0 0 0
    ∷ booking (0 ∷ 4 ∷ []) 1 4 0 0
    ∷ booking (0 ∷ 4 ∷ 4 ∷ 9 ∷ []) 3 9 0 0
    -- 1: too many proteins, also where the boundaries are not as many
    ∷ booking (0 ∷ []) 65537 0 1 0
    -- 8: not one more than the proteins, none at all, also where they are bad
    ∷ booking (0 ∷ 4 ∷ []) 2 4 8 0
    ∷ booking [] 0 0 8 0
    ∷ booking (1 ∷ 4 ∷ []) 2 4 8 0
    -- 9: a first one that is not 0; a step that falls; one that is too long; a last one that is not the letter count
    ∷ booking (1 ∷ 4 ∷ []) 1 4 9 0
    ∷ booking (0 ∷ 5 ∷ 3 ∷ 9 ∷ []) 3 9 9 2
    ∷ booking (0 ∷ 65537 ∷ 65537 ∷ []) 2 3 9 1
    ∷ booking (0 ∷ 3 ∷ []) 1 4 9 1
    ∷ booking (0 ∷ []) 0 4 9 0
    -- 2: a byte that is no letter, behind the boundaries
    ∷ spelling (0 ∷ 1 ∷ 3 ∷ []) 91 2 2
    ∷ spelling (0 ∷ 1 ∷ 4 ∷ []) 91 9 2
    ∷ reading (65 ∷ 90 ∷ []) 0 0
    ∷ reading (65 ∷ 91 ∷ []) 2 1
    ∷ reading (97 ∷ 122 ∷ []) 0 0
    ∷ reading (97 ∷ 96 ∷ []) 2 1
    ∷ reading (122 ∷ 123 ∷ []) 2 1
    ∷ []

pub table : List Case
table = names ++ books

pub cases : Hold table
unfolding seek is_letter first_bad first_bad_bound booking spelling reading books table
cases = joined names books names_hold books_hold
  where
    books_hold : Hold books
    books_hold = refl
