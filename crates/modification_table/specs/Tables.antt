-- Document 01, "Rules and the table": "The table answers the first entry equal in mass (as floats: minus zero equals zero,
-- not-a-number nothing) and name number, else appends; its id is index + 1." A record is 8 bytes: mass f32, name number u32.
use Rattle.std.specs.Prelude.{ℕ, ◌+◌, ◌*◌, ◌/◌, Bool, cond, ◌&&◌, List, [], ◌∷◌, ◌++◌, length, leb, ltb, eqb, Result, Ok, Err}
use Rattle.std.proofs.lemmas.List.Edits.{sets}
use Rattle.std.specs.Float.{binary32}
use Rattle.std.specs.Float.Ieee.{of_bits, eq}
use Rattle.records.specs.declared.refusal.Refusal.{Refusal}
use Rattle.records.specs.declared.refusal.Refusal.TheVariants.{Size, TableFull, Length, Room}
use Rattle.records.specs.Le.{le, number_at}
use Rattle.records.specs.Search.{seek}
use Rattle.records.specs.Outcome.{Outcome, outcome, unless_refused}
use Rattle.records.specs.Answers.{Passed, Tested}

-- what it answers, or why not
abbrev pub Entered : Type 0
Entered = Result ℕ Refusal

abbrev pub mass_at : List ℕ → ℕ → ℕ
mass_at table i = number_at 4 table (i * 8)

abbrev pub name_at : List ℕ → ℕ → ℕ
name_at table i = number_at 4 table (i * 8 + 4)

-- two bit patterns that are equal as floats
unfoldable pub same_mass : ℕ → ℕ → Bool
same_mass a b = eq (of_bits binary32 a) (of_bits binary32 b)

-- whether record i has the mass and the name number
abbrev pub equal_entry : List ℕ → ℕ → ℕ → ℕ → Bool
equal_entry table mass name i = same_mass (mass_at table i) mass && eqb (name_at table i) name

-- the first of count records that does, or count
unfoldable pub first_equal : List ℕ → ℕ → ℕ → ℕ → ℕ
unfolding seek
first_equal table mass name count = seek (equal_entry table mass name) 0 count

-- 1: more than 255; 8: fewer records than stated. A name number may be any number
unfoldable pub tested_table : List ℕ → ℕ → Tested
tested_table table count = cond (ltb 255 count) (Err Size) (cond (ltb (length table / 8) count) (Err Length) Passed)

abbrev pub entry_bytes : ℕ → ℕ → List ℕ
entry_bytes mass name = le 4 mass ++ le 4 name

-- the first equal record; else 7: a 256th; 11: no room for one more; else it is appended
unfoldable pub entered_outcome : List ℕ → ℕ → ℕ → ℕ → Outcome Entered
entered_outcome table count mass name =
    cond (ltb (first_equal table mass name count) count) (outcome (Ok (first_equal table mass name count + 1)) (table ∷ []))
    (cond (eqb count 255) (outcome (Err TableFull) (table ∷ []))
    (cond (leb (length table / 8) count) (outcome (Err Room) (table ∷ []))
    (outcome (Ok (count + 1)) (sets table (count * 8) (entry_bytes mass name) ∷ []))))

unfoldable pub insert_outcome : List ℕ → ℕ → ℕ → ℕ → Outcome Entered
unfolding tested_table entered_outcome
insert_outcome table count mass name = unless_refused (tested_table table count) Err (table ∷ []) (entered_outcome table count mass name)
