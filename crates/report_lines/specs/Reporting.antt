-- What a call of `report_line` answers, and what its line holds then.
use Rattle.std.specs.Prelude.{ℕ, ◌≡◌, Bool, cond, List, [], ◌∷◌, length, leb, Result, Ok, Err}
use Rattle.records.specs.declared.refusal.Refusal.{Refusal}
use Rattle.records.specs.declared.refusal.Refusal.TheVariants.{Room}
use Rattle.records.specs.Outcome.{Outcome, outcome, unless_refused, only}
use Rattle.records.specs.Room.{fitted, singly}
use Rattle.protein_groups_members.specs.Members.{members_in}
use Rattle.report_lines_spec.specs.Line.{line_text, line_count}
use Rattle.report_lines_tests.specs.Testing.{tested}
use Rattle.report_lines.specs.declared.reporting.Report.{Report}

-- what it answers, or why not
abbrev pub Reported : Type 0
Reported = Result Report Refusal

-- the line's length and the group count, or 11; "the report line's record is a byte", and it has no limit but its room
abbrev pub reported_of : ℕ → ℕ → ℕ → Reported
reported_of bytes count room = cond (leb bytes room) (Ok (record { bytes = bytes; groups = count })) (Err Room)

abbrev pub lined : List ℕ → ℕ → List ℕ → Outcome Reported
lined text count out = outcome (reported_of (length text) count (length out)) (fitted 1 (length out) out (singly text) ∷ [])

abbrev pub line_lined : List ℕ → List ℕ → List ℕ → List ℕ → Bool → List ℕ → Bool → List ℕ → Outcome Reported
line_lined names members marks list decoy tag generated out =
    lined (line_text names (members_in members) marks list decoy tag generated) (line_count (members_in members) marks list decoy) out

abbrev pub line_outcome : List ℕ → List ℕ → List ℕ → List ℕ → Bool → List ℕ → Bool → List ℕ → Outcome Reported
line_outcome names members marks list decoy tag generated out =
    unless_refused (tested names members marks list tag) Err (out ∷ []) (line_lined names members marks list decoy tag generated out)

-- no second answer and no second contents meet the contract of `report_line`
pub line_only : (names members marks list : List ℕ) (decoy : Bool) (tag : List ℕ) (generated : Bool) (out : List ℕ) (r q : Reported) (k l : List (List ℕ))
    → outcome r k ≡ line_outcome names members marks list decoy tag generated out → outcome q l ≡ line_outcome names members marks list decoy tag generated out → (r ≡ q) × (k ≡ l)
line_only names members marks list decoy tag generated out r q k l = only r q k l (line_outcome names members marks list decoy tag generated out)
