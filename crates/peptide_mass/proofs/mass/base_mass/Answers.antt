-- `base_mass` meets its contract. Assumes nothing.
use Rattle.std.proofs.Common.{Ok, sym, ap, ◌∙◌}
use Rattle.std.proofs.lemmas.Result.{err_from_is_err_and}
use Rattle.peptide_mass.specs.MassLaws.{passed_weighable, weighed-refused, weighed-passed}
use Rattle.peptide_mass.proofs.mass.base_mass.Goals as goal

pub returns-in_err-test_letters : goal.returns-in_err-test_letters
returns-in_err-test_letters c =
    let a = c.args in
    let p = err_from_is_err_and c.from_residual.result c.from_residual.ensures.1 in
    rw (p.1, p.2) (weighed-refused a.letters.now a.masses.now a.water _ c.in_err-test_letters.ensures)

pub sum-requires : goal.sum-requires
sum-requires c =
    let w = passed_weighable c.args.letters.now c.args.masses.now (sym c.in_ok-test_letters.ensures) in
    record { masses_len = w.whole; by_index = w.good }

pub returns : goal.returns
returns c =
    let a = c.args in
    ap Ok c.sum.ensures ∙ weighed-passed a.letters.now a.masses.now a.water c.in_ok-test_letters.ensures
