-- What a call of `cover` answers, and what its work memory and its marks hold then.
use Rattle.std.specs.Prelude.{ℕ, ◌≡◌, List, [], ◌∷◌, length, Err}
use Rattle.records.specs.Outcome.{Outcome, outcome, unless_refused, only}
use Rattle.cover_spec.specs.Cover.{cover_list}
use Rattle.cover_spec.specs.Marks.{handed}
use Rattle.cover_edges.specs.Edges.{edges_of}
use Rattle.cover_tests.specs.Testing.{cover_tested}
use Rattle.records.specs.Answers.{Counted}

-- the marks of the edges' cover
abbrev pub cover_marks : List ℕ → ℕ → List ℕ
cover_marks bs groups = cover_list groups (edges_of bs)

-- then 11, in `handed`
abbrev pub cover_outcome : List ℕ → ℕ → ℕ → List ℕ → List ℕ → Outcome Counted
cover_outcome bs groups metas work marks =
    unless_refused (cover_tested bs groups metas (length work)) Err (work ∷ marks ∷ []) (handed work marks (cover_marks bs groups))

-- no second answer and no second contents meet the contract of `cover`
pub cover_only : (bs : List ℕ) (groups metas : ℕ) (work marks : List ℕ) (r q : Counted) (v w k l : List ℕ)
    → outcome r (v ∷ k ∷ []) ≡ cover_outcome bs groups metas work marks → outcome q (w ∷ l ∷ []) ≡ cover_outcome bs groups metas work marks → (r ≡ q) × (v ∷ k ∷ [] ≡ w ∷ l ∷ [])
cover_only bs groups metas work marks r q v w k l = only r q (v ∷ k ∷ []) (w ∷ l ∷ []) (cover_outcome bs groups metas work marks)
