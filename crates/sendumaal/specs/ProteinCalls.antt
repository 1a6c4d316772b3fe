-- What the calls on groups of proteins and on report lines leave: as in Calls, *place first, then the other results, then the work memory
-- and the lists in argument order.
use Rattle.std.specs.Prelude.{ℕ, ◌≡◌, Bool, cond, ◌&&◌, List, [], ◌∷◌, leb, eqb, Ok, Err}
use Rattle.report_lines_tests.specs.Testing.{tested}
use Rattle.records.specs.Outcome.{Outcome, outcome, only}
use Rattle.protein_groups.specs.ProteinGrouping.{Grouped, protein_groups_outcome}
use Rattle.report_lines.specs.Reporting.{Reported, line_outcome}
use Rattle.sendumaal_calls.specs.Calls.{accepted, refused, with_lent}
use Rattle.sendumaal_calls.specs.DigestCalls.{field_call}

-- the arguments in their order, and what the lent slices and the results hold at entry
pub record ProteinsArguments : Type 0 where
  pub pairs : List ℕ
  pub flags : List ℕ
  pub peptides : ℕ
  pub proteins : ℕ
  pub work : List ℕ
  pub edges : List ℕ
  pub members : List ℕ
  pub groups : ℕ
  pub metas : ℕ
  pub edge_count : ℕ
  pub member_count : ℕ

-- how many groups, meta-peptides, edges and members were made
abbrev pub sizes_call : Grouped → ProteinsArguments → Outcome ℕ
sizes_call (Ok s) a = accepted ((s.groups ∷ []) ∷ (s.metas ∷ []) ∷ (s.edges ∷ []) ∷ (s.members ∷ []) ∷ [])
sizes_call (Err r) a = refused r ((a.groups ∷ []) ∷ (a.metas ∷ []) ∷ (a.edge_count ∷ []) ∷ (a.member_count ∷ []) ∷ [])

abbrev pub proteins_call : ProteinsArguments → Outcome ℕ
proteins_call a =
    let o = protein_groups_outcome a.pairs a.flags a.peptides a.proteins a.work a.edges a.members in
    with_lent (sizes_call o.answer a) o.lent

pub record LineArguments : Type 0 where
  pub names : List ℕ
  pub members : List ℕ
  pub marks : List ℕ
  pub proteins : List ℕ
  pub decoy : ℕ
  pub tag : List ℕ
  pub generated : ℕ
  pub line : List ℕ
  pub bytes : ℕ
  pub groups : ℕ

-- a line's length and its group count
abbrev pub report_call : Reported → ℕ → ℕ → Outcome ℕ
report_call (Ok p) bytes groups = accepted ((p.bytes ∷ []) ∷ (p.groups ∷ []) ∷ [])
report_call (Err r) bytes groups = refused r ((bytes ∷ []) ∷ (groups ∷ []) ∷ [])

abbrev pub are_flags : ℕ → ℕ → Bool
are_flags a b = leb a 1 && leb b 1

-- a flag that is neither 0 nor 1 is a field out of range, after what the tests find
abbrev pub line_call : LineArguments → Outcome ℕ
line_call a =
    let o = line_outcome a.names a.members a.marks a.proteins (eqb a.decoy 1) a.tag (eqb a.generated 1) a.line in
    cond (are_flags a.decoy a.generated) (with_lent (report_call o.answer a.bytes a.groups) o.lent)
    (with_lent (field_call (tested a.names a.members a.marks a.proteins a.tag)) ((a.bytes ∷ []) ∷ (a.groups ∷ []) ∷ a.line ∷ []))

-- no second number and no second results meet the contracts
pub proteins_call_only : (a : ProteinsArguments) (n m : ℕ) (k l : List (List ℕ)) → outcome n k ≡ proteins_call a → outcome m l ≡ proteins_call a → (n ≡ m) × (k ≡ l)
proteins_call_only a n m k l = only n m k l (proteins_call a)

pub line_call_only : (a : LineArguments) (n m : ℕ) (k l : List (List ℕ)) → outcome n k ≡ line_call a → outcome m l ≡ line_call a → (n ≡ m) × (k ≡ l)
line_call_only a n m k l = only n m k l (line_call a)
