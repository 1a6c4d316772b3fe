-- Document 01: "Room counts whole records up to the list's limit"; of a list that is longer "each then holds its first
-- records that fit", and "bytes past the answer stay".
use Rattle.std.specs.Prelude.{ℕ, ◌/◌, min, Bool, cond, length, take, drop, leb, Ok, Err}
use mathlib.Core.List.{List, [], ◌∷◌, ◌++◌, flatten, map}
use Rattle.records.specs.declared.refusal.Refusal.TheVariants.{Room}
use Rattle.records.specs.Outcome.{Outcome, outcome}
use Rattle.records.specs.Answers.{Counted}

-- how many records of a size there is room for
abbrev pub room_of : ℕ → ℕ → List ℕ → ℕ
room_of size limit old = min (length old / size) limit

-- records from a buffer's start on; what lies past them stays
unfoldable pub written : List ℕ → List (List ℕ) → List ℕ
unfolding flatten
written old rs = flatten rs ++ drop (length (flatten rs)) old

-- whether a list of records has room
abbrev pub fits : ℕ → ℕ → List ℕ → List (List ℕ) → Bool
fits size limit old rs = leb (length rs) (room_of size limit old)

-- the records that fit stand in order, the rest of the buffer stays
abbrev pub fitted : ℕ → ℕ → List ℕ → List (List ℕ) → List ℕ
fitted size limit old rs = written old (take (room_of size limit old) rs)

-- bytes or numbers of which each is a record of its own
abbrev pub singly : List ℕ → List (List ℕ)
singly = map (λ (b : ℕ). b ∷ [])

-- a list of at most `limit` records of a size: how many there are, or 11 where there is no room for all
abbrev pub counted : ℕ → ℕ → List ℕ → List (List ℕ) → Outcome Counted
counted size limit old rs = outcome (cond (fits size limit old rs) (Ok (length rs)) (Err Room)) (fitted size limit old rs ∷ [])
