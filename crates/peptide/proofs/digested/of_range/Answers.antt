-- `of_range` meets its contract. Assumes nothing.
use Prim.Native.Nat.{◌≤◌}
use mathlib.Core.Path.{sym, ap, ◌∙◌, subst}
use Rattle.peptide.specs.declared.making.Peptide.{Peptide}
use Rattle.peptide.specs.Peptides.{reversed_peptide}
use Rattle.peptide.specs.DigestedLaws.{range_decoy, range_target}
use Rattle.peptide.proofs.digested.of_range.Goals as goal

pub turned-requires : goal.turned-requires
turned-requires c = subst (λ (p : Peptide). p.len ≤ 64) (sym c.given-peptide.ensures) c.requires

pub returns-then-decoy : goal.returns-then-decoy
returns-then-decoy c =
    let a = c.args in
    c.turned.ensures ∙ ap reversed_peptide c.given-peptide.ensures ∙ range_decoy a.part.now a.position a.decoy c.if-decoy.true

pub returns-else-decoy : goal.returns-else-decoy
returns-else-decoy c =
    let a = c.args in
    c.given-peptide.ensures ∙ range_target a.part.now a.position a.decoy c.if-decoy.false
