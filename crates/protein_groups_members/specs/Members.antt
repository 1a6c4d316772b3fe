-- Document 01, "Sizes and records": a member is 12 bytes, group u32, protein u32, decoy u8 and three zeros.
use Rattle.std.specs.Prelude.{ℕ, ◌+◌, ◌*◌, ◌/◌, Bool, not, ◌&&◌, List, [], ◌∷◌, ◌++◌, map, leb, ltb, eqb, length, get_or}
use Rattle.lists.specs.Lists.{up_from}
use Rattle.records.specs.Le.{le, number_at}
use Rattle.records.specs.Search.{seek}

pub record Member : Type 0 where
  pub group : ℕ
  pub protein : ℕ
  pub decoy : ℕ

-- record i, and all whole records
abbrev pub member_at : List ℕ → ℕ → Member
member_at bytes i = record { group = number_at 4 bytes (12 * i); protein = number_at 4 bytes (12 * i + 4); decoy = get_or bytes (12 * i + 8) 0 }

abbrev pub members_in : List ℕ → List Member
members_in bytes = map (member_at bytes) (up_from 0 (length bytes / 12))

-- a member's record
unfoldable pub member_bytes : Member → List ℕ
member_bytes m = le 4 m.group ++ (le 4 m.protein ++ (m.decoy ∷ 0 ∷ 0 ∷ 0 ∷ []))

-- group and protein below their counts, the flag 0 or 1, and three zeros
abbrev pub good_member : List ℕ → ℕ → ℕ → ℕ → Bool
good_member bytes groups proteins i =
    ltb (number_at 4 bytes (12 * i)) groups
    && ltb (number_at 4 bytes (12 * i + 4)) proteins
    && leb (get_or bytes (12 * i + 8) 0) 1
    && eqb (get_or bytes (12 * i + 9) 0) 0
    && eqb (get_or bytes (12 * i + 10) 0) 0
    && eqb (get_or bytes (12 * i + 11) 0) 0

abbrev pub bad_member : List ℕ → ℕ → ℕ → ℕ → Bool
bad_member bytes groups proteins i = not (good_member bytes groups proteins i)

-- the first member that is not, or their number
unfoldable pub first_bad_member : List ℕ → ℕ → ℕ → ℕ
unfolding seek
first_bad_member bytes groups proteins = seek (bad_member bytes groups proteins) 0 (length bytes / 12)
