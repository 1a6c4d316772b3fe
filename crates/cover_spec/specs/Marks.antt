-- Document 01, "Sizes and records": cover and update take work memory of "at least 4 x left + 4 x right + 6 x the edges" given, which
-- "is all zeros after acceptance or "no room"", and hand out marks, one byte for each group, of which there are at most 131,072.
use Rattle.std.specs.Prelude.{ℕ, ◌+◌, ◌*◌, cond, List, [], ◌∷◌, length, replicate, Ok, Err}
use Rattle.records.specs.declared.refusal.Refusal.TheVariants.{Room}
use Rattle.records.specs.Outcome.{Outcome, outcome}
use Rattle.records.specs.Room.{fits, fitted, singly}
use Rattle.records.specs.Answers.{Counted}

-- the least work memory
abbrev pub work_needed : ℕ → ℕ → ℕ → ℕ
work_needed groups metas edges = 4 * groups + 4 * metas + 6 * edges

-- the work memory and the marks: how many there are, or 11 where there is no room for all
abbrev pub handed : List ℕ → List ℕ → List ℕ → Outcome Counted
handed work old marks =
    outcome (cond (fits 1 131072 old (singly marks)) (Ok (length marks)) (Err Room)) (replicate (length work) 0 ∷ fitted 1 131072 old (singly marks) ∷ [])
