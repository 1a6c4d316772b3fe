-- Document 01, "Sizes and records": a digest's numbers are little-endian. Document 02, [7]: "The digest record grows to 20 bytes by a
-- u32".
use Rattle.std.specs.Prelude.{ℕ, Bool, cond, ◌&&◌, List, ◌∷◌, ◌++◌, get_or, eqb, ltb, leb}
use Rattle.records.specs.Le.{le, number_at}
use Rattle.enzyme_cuts.specs.Cutting.{Range}

-- Nterm 0, Cterm 1, Full 2, Internal 3: position looks at start = 0 and end = n
unfoldable pub position_of : ℕ → ℕ → ℕ → ℕ
position_of n a e = cond (eqb a 0) (cond (eqb e n) 2 0) (cond (eqb e n) 1 3)

-- start u32, end u32, missed u8, semi u8, position u8, decoy u8, protein u32; decoy is 0, the protein as given; then, u32, how often the
-- letters occur
unfoldable pub record_of : ℕ → ℕ → Range → ℕ → List ℕ
unfolding position_of
record_of n protein r times =
    le 4 r.from ++ (le 4 r.to ++ (r.missed ∷ r.semi ∷ position_of n r.from r.to ∷ 0 ∷ (le 4 protein ++ le 4 times)))

-- the fields of a record
abbrev pub start_of : List ℕ → ℕ
start_of r = number_at 4 r 0

abbrev pub end_of : List ℕ → ℕ
end_of r = number_at 4 r 4

abbrev pub position_in : List ℕ → ℕ
position_in r = get_or r 10 0

abbrev pub decoy_in : List ℕ → ℕ
decoy_in r = get_or r 11 0

abbrev pub is_decoy : List ℕ → Bool
is_decoy r = eqb (decoy_in r) 1

abbrev pub protein_in : List ℕ → ℕ
protein_in r = number_at 4 r 12

-- as input, what can be asked of a record alone (document 02, [7]: "As input any count passes"): start below end, end within the longest protein there is, missed to 16, flags 0 or 1, position to 3
abbrev pub good_record : List ℕ → Bool
good_record r = ltb (start_of r) (end_of r) && leb (end_of r) 65536 && leb (get_or r 8 0) 16 && leb (get_or r 9 0) 1 && leb (position_in r) 3 && leb (decoy_in r) 1
