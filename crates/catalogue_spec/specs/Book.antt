-- Document 01, "Sizes and records": a sequence book is all proteins' letters in a row (at most 2^28) and u32 boundaries, one more
-- than the proteins: first 0, never falling, rising by at most 65,536, last the letter count (else 9).
use Rattle.std.specs.Prelude.{ℕ, ◌+◌, ◌-◌, Bool, cond, not, ◌&&◌, ◌||◌, List, length, get_or, ltb, eqb, Err}
use Rattle.records.specs.declared.refusal.Refusal.TheVariants.{Letter, Field}
use Rattle.records.specs.Tested.{field_tested}
use Rattle.records.specs.Search.{seek}
use Rattle.letters.specs.Letters.{first_bad}
use Rattle.records.specs.Answers.{Passed, Tested}

-- 1: more than 2^28 letters
abbrev pub too_many_letters : List ℕ → Bool
too_many_letters letters = ltb 268435456 (length letters)

-- 1: more than 65,536 proteins
abbrev pub too_many_proteins : ℕ → Bool
too_many_proteins proteins = ltb 65536 proteins

-- 8 unless there is one boundary more than proteins
abbrev pub bounds_of : List ℕ → ℕ → Bool
bounds_of bounds proteins = eqb (length bounds) (proteins + 1)

-- from a to b the boundaries fall, or rise by more than 65,536
abbrev pub bad_step : ℕ → ℕ → Bool
bad_step a b = ltb b a || ltb (a + 65536) b

-- boundary i does not follow: the first is 0, every other goes on from the one before it
abbrev pub strays : List ℕ → ℕ → Bool
strays bounds i = cond (eqb i 0) (not (eqb (get_or bounds i 0) 0)) (bad_step (get_or bounds (i - 1) 0) (get_or bounds i 0))

-- boundary i is the last and not the letter count
abbrev pub ends_wrong : List ℕ → ℕ → ℕ → Bool
ends_wrong bounds count i = eqb (i + 1) (length bounds) && not (eqb (get_or bounds i 0) count)

abbrev pub bad_bound : List ℕ → ℕ → ℕ → Bool
bad_bound bounds count i = strays bounds i || ends_wrong bounds count i

-- the lowest bad boundary, or their number
unfoldable pub first_bad_bound : List ℕ → ℕ → ℕ
unfolding seek
first_bad_bound bounds count = seek (bad_bound bounds count) 0 (length bounds)

-- 9 at the lowest bad boundary; where there is none at all, the first is missing
abbrev pub bounds_tested : List ℕ → ℕ → Tested
bounds_tested bounds count =
    cond (eqb (length bounds) 0) (Err (Field 0))
    (field_tested (first_bad_bound bounds count) (length bounds))

-- 2 at the first byte that is no letter
abbrev pub letters_tested : List ℕ → Tested
letters_tested letters = cond (ltb (first_bad letters) (length letters)) (Err (Letter (first_bad letters))) Passed
