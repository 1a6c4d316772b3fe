-- From the answers of `group_proteins`, of `report_line` and of its tests to what the calls leave. Assumes nothing.
use Rattle.std.specs.Prelude.{ℕ, ◌≡◌, true, false, List, [], ◌∷◌, eqb, Ok, Err}
use Rattle.std.proofs.Common.{sym, ap, ◌∙◌}
use Rattle.report_lines_tests.specs.Testing.{tested}
use Rattle.records.specs.declared.refusal.Refusal.{Refusal}
use Rattle.records.specs.Outcome.{Outcome, outcome}
use Rattle.protein_groups.specs.declared.grouping.Sizes.{Sizes}
use Rattle.protein_groups.specs.ProteinGrouping.{Grouped, protein_groups_outcome}
use Rattle.report_lines.specs.Reporting.{Reported, line_outcome}
use Rattle.sendumaal_calls.specs.Calls.{refused, with_lent}
use Rattle.sendumaal_calls.specs.DigestCalls.{field_call}
use Rattle.sendumaal.specs.ProteinCalls.{ProteinsArguments, sizes_call, proteins_call, LineArguments, report_call, are_flags, line_call}

module _ (a : ProteinsArguments) (g : Grouped) (lent : List (List ℕ)) (e : outcome g lent ≡ protein_groups_outcome a.pairs a.flags a.peptides a.proteins a.work a.edges a.members) where
  whole : with_lent (sizes_call g a) lent ≡ proteins_call a
  whole = ap (λ (o : Outcome Grouped). with_lent (sizes_call o.answer a) o.lent) e

  pub proteins-made : (s : Sizes) → g ≡ Ok s
      → outcome 0 ((0 ∷ []) ∷ (s.groups ∷ []) ∷ (s.metas ∷ []) ∷ (s.edges ∷ []) ∷ (s.members ∷ []) ∷ lent) ≡ proteins_call a
  proteins-made s f = ap (λ (x : Grouped). with_lent (sizes_call x a) lent) (sym f) ∙ whole

  pub proteins_no : (r : Refusal) → g ≡ Err r
      → refused r ((a.groups ∷ []) ∷ (a.metas ∷ []) ∷ (a.edge_count ∷ []) ∷ (a.member_count ∷ []) ∷ lent) ≡ proteins_call a
  proteins_no r f = ap (λ (x : Grouped). with_lent (sizes_call x a) lent) (sym f) ∙ whole

module _ (a : LineArguments) (n p : ℕ) where
  pub line-done : are_flags a.decoy a.generated ≡ true → (q s : ℕ) (r : Reported) (b : List ℕ) → outcome n ((p ∷ []) ∷ (q ∷ []) ∷ (s ∷ []) ∷ []) ≡ report_call r a.bytes a.groups
      → outcome r (b ∷ []) ≡ line_outcome a.names a.members a.marks a.proteins (eqb a.decoy 1) a.tag (eqb a.generated 1) a.line
      → outcome n ((p ∷ []) ∷ (q ∷ []) ∷ (s ∷ []) ∷ b ∷ []) ≡ line_call a
  line-done h q s r b e f =
      ap (λ (x : Outcome ℕ). with_lent x (b ∷ [])) e
      ∙ ap (λ (o : Outcome Reported). with_lent (report_call o.answer a.bytes a.groups) o.lent) f
      ∙ rw h

  pub line-field : are_flags a.decoy a.generated ≡ false → outcome n ((p ∷ []) ∷ []) ≡ field_call (tested a.names a.members a.marks a.proteins a.tag)
      → outcome n ((p ∷ []) ∷ (a.bytes ∷ []) ∷ (a.groups ∷ []) ∷ a.line ∷ []) ≡ line_call a
  line-field h e = ap (λ (o : Outcome ℕ). with_lent o ((a.bytes ∷ []) ∷ (a.groups ∷ []) ∷ a.line ∷ [])) e ∙ rw h
