-- Document 01, "Sizes and records": a name is 64 bytes, 1 to 64 bytes from 33 to 126, then zeros. A catalogue is names in a row.
use Rattle.std.specs.Prelude.{ℕ, ◌-◌, ◌/◌, ◌%◌, Bool, cond, not, ◌&&◌, ◌||◌, List, ◌++◌, length, get_or, replicate, leb, ltb, eqb, Err}
use Rattle.records.specs.declared.refusal.Refusal.{Refusal}
use Rattle.records.specs.declared.refusal.Refusal.TheVariants.{Size, Length, Name, Repeat}
use Rattle.records.specs.Search.{seek}
use Rattle.sorting_spec.specs.Joined.{name_of}
use Rattle.sorting_spec.specs.Repeats.{repeats}
use Rattle.records.specs.Answers.{Passed, Tested}

-- ---- one record

abbrev pub visible : ℕ → Bool
visible b = leb 33 b && leb b 126

-- at a place stands no byte from 33 to 126
abbrev pub hidden : List ℕ → ℕ → Bool
hidden r p = not (visible (get_or r p 0))

-- at a place stands no zero
abbrev pub non_zero : List ℕ → ℕ → Bool
non_zero r p = not (eqb (get_or r p 0) 0)

-- how many bytes from 33 to 126 a record begins with: the length of its name
unfoldable pub name_length : List ℕ → ℕ
unfolding seek
name_length r = seek (hidden r) 0 (length r)

-- the first place from `from` on where no zero stands, or the record's length
unfoldable pub zeros_to : List ℕ → ℕ → ℕ
unfolding seek
zeros_to r from = seek (non_zero r) from (length r - from)

-- 64 bytes: 1 to 64 bytes from 33 to 126, then zeros
abbrev pub is_name : List ℕ → Bool
is_name r = eqb (length r) 64 && ltb 0 (name_length r) && eqb (zeros_to r (name_length r)) 64

-- a text as a record: its bytes, then zeros
abbrev pub padded : List ℕ → List ℕ
padded t = t ++ replicate (64 - length t) 0

-- ---- a catalogue

-- how many names there are; a part of a record is none
abbrev pub name_count : List ℕ → ℕ
name_count names = length names / 64

-- 1: more than 65,536 names
abbrev pub too_many_names : List ℕ → Bool
too_many_names names = ltb 65536 (name_count names)

-- 8 unless the length is whole records
abbrev pub whole_names : List ℕ → Bool
whole_names names = eqb (length names % 64) 0

-- record i is no name
abbrev pub bad_name : List ℕ → ℕ → Bool
bad_name names i = not (is_name (name_of names i))

-- a record is wrong where it is no name, or equals an earlier one
abbrev pub wrong_name : List ℕ → ℕ → Bool
wrong_name names i = bad_name names i || repeats (name_of names) i

-- what is said of it: 12 before 13
abbrev pub wrong_at : List ℕ → ℕ → Refusal
wrong_at names at = cond (bad_name names at) (Name at) (Repeat at)

-- the contents: the lowest place where a record is wrong
unfoldable pub names_tested : List ℕ → Tested
unfolding seek
names_tested names =
    let at = seek (wrong_name names) 0 (name_count names) in
    cond (ltb at (name_count names)) (Err (wrong_at names at)) Passed

-- a catalogue alone: 1, then 8, then its contents
abbrev pub catalogue_tested : List ℕ → Tested
catalogue_tested names =
    cond (too_many_names names) (Err Size)
    (cond (whole_names names) (names_tested names) (Err Length))
