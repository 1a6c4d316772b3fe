-- `is_unfit` meets its contract. Assumes nothing.
use mathlib.Core.Path.{ap, ◌∙◌}
use mathlib.Core.Bool.{not}
use Rattle.peptide_digests.specs.DigestTestLaws.{unfit_inside, unfit_outside}
use Rattle.peptide_digests.proofs.digests.is_unfit.Goals as goal

pub returns-then-inside : goal.returns-then-inside
returns-then-inside c =
    let a = c.args in
    c.has_no_mass.ensures ∙ unfit_inside a.masses.now a.inside a.b c.if-inside.true

pub returns-else-inside : goal.returns-else-inside
returns-else-inside c =
    let a = c.args in
    ap not c.is_letter.ensures ∙ unfit_outside a.masses.now a.inside a.b c.if-inside.false
