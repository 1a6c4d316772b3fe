-- `test_part` meets its contract. Assumes nothing.
use Rattle.std.proofs.lemmas.Result.{err_from_is_err_and}
use Rattle.peptide_mass.specs.MassLaws.{part-letters, part-passed, part_field}
use Rattle.peptide_mass.proofs.mass.test_part.Goals as goal

pub returns-in_err-test_letters : goal.returns-in_err-test_letters
returns-in_err-test_letters c =
    let a = c.args in
    let p = err_from_is_err_and c.from_residual.result c.from_residual.ensures.1 in
    rw (p.1, p.2) (part-letters a.part.now a.masses.now a.position _ c.in_err-test_letters.ensures)

pub returns-then-position-le3 : goal.returns-then-position-le3
returns-then-position-le3 c = part-passed c.args.part.now c.args.masses.now c.args.position c.in_ok-test_letters.ensures c.if-position-le3.true

pub returns-else-position-le3 : goal.returns-else-position-le3
returns-else-position-le3 c = part_field c.args.part.now c.args.masses.now c.args.position c.in_ok-test_letters.ensures c.if-position-le3.false
