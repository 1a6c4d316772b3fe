-- What the tests of a sequence book alone, and of letters alone, answer. Document 01: 1, then 8, then contents list by list, boundaries
-- before letters.
use Rattle.std.specs.Prelude.{ℕ, Bool, cond, ◌||◌, List, length, Err}
use Rattle.records.specs.declared.refusal.Refusal.TheVariants.{Size, Length}
use Rattle.records.specs.Tested.{and_then}
use Rattle.catalogue_spec.specs.Book.{too_many_letters, too_many_proteins, bounds_of, bounds_tested, letters_tested}
use Rattle.records.specs.Answers.{Tested}

-- 1: more than 65,536 proteins or 2^28 letters
abbrev pub too_large : List ℕ → ℕ → Bool
too_large letters proteins = too_many_proteins proteins || too_many_letters letters

-- 9 of the boundaries, then 2
abbrev pub contents : List ℕ → List ℕ → Tested
contents bounds letters = and_then (bounds_tested bounds (length letters)) (letters_tested letters)

abbrev pub book_tested : List ℕ → List ℕ → ℕ → Tested
book_tested bounds letters proteins =
    cond (too_large letters proteins) (Err Size)
    (cond (bounds_of bounds proteins) (contents bounds letters) (Err Length))

-- letters alone: no list of letters is longer than a book's
abbrev pub all_letters_tested : List ℕ → Tested
all_letters_tested letters = cond (too_many_letters letters) (Err Size) (letters_tested letters)
