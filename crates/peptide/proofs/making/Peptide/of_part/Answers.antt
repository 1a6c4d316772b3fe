-- `Peptide::of_part` meets its contract. Assumes nothing.
use Rattle.std.proofs.Common.{[], sym}
use Rattle.std.proofs.lemmas.Result.{err_from_is_err_and}
use Rattle.peptide_mass.specs.MassLaws.{part-fits}
use Rattle.peptide.specs.Peptides.{peptide_from}
use Rattle.peptide.specs.PeptideLaws.{made-refused, made_given}
use Rattle.peptide.proofs.making.Peptide.of_part.Goals as goal

pub returns-in_err-test_part : goal.returns-in_err-test_part
returns-in_err-test_part c =
    let a = c.args in
    let p = err_from_is_err_and c.from_residual.result c.from_residual.ensures.1 in
    rw (p.1, p.2) (made-refused _ _ (peptide_from a.part.now [] a.position a.decoy) (sym c.in_err-test_part.ensures))

pub given-requires : goal.given-requires
given-requires c = part-fits c.args.part.now c.args.masses.now c.args.position (sym c.in_ok-test_part.ensures)

pub returns : goal.returns
returns c =
    let a = c.args in
    made_given _ (peptide_from a.part.now [] a.position a.decoy) c.given.result (sym c.in_ok-test_part.ensures) c.given.ensures
