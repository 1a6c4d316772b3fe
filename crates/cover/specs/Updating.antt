-- What a call of `update` answers, and what its work memory and its marks hold then.
use Rattle.std.specs.Prelude.{ℕ, ◌≡◌, List, [], ◌∷◌, length, Err}
use Rattle.records.specs.Outcome.{Outcome, outcome, unless_refused, only}
use Rattle.cover_spec.specs.Marks.{handed}
use Rattle.cover_spec.specs.Update.{update_list}
use Rattle.cover_edges.specs.Edges.{edges_of}
use Rattle.cover_tests.specs.Testing.{update_tested}
use Rattle.records.specs.Answers.{Counted}

-- groups of touched parts get the mark of the new edges' cover, every other group keeps the mark given
abbrev pub update_marks : List ℕ → List ℕ → ℕ → List ℕ → List ℕ
update_marks old new groups given = update_list groups (edges_of old) (edges_of new) given

-- then 11, in `handed`
abbrev pub update_outcome : List ℕ → List ℕ → ℕ → ℕ → List ℕ → List ℕ → List ℕ → Outcome Counted
update_outcome old new groups metas given work marks =
    unless_refused (update_tested old new groups metas given (length work)) Err (work ∷ marks ∷ []) (handed work marks (update_marks old new groups given))

-- no second answer and no second contents meet the contract of `update`
pub update_only : (old new : List ℕ) (groups metas : ℕ) (given work marks : List ℕ) (r q : Counted) (v w k l : List ℕ)
    → outcome r (v ∷ k ∷ []) ≡ update_outcome old new groups metas given work marks → outcome q (w ∷ l ∷ []) ≡ update_outcome old new groups metas given work marks → (r ≡ q) × (v ∷ k ∷ [] ≡ w ∷ l ∷ [])
update_only old new groups metas given work marks r q v w k l = only r q (v ∷ k ∷ []) (w ∷ l ∷ []) (update_outcome old new groups metas given work marks)
