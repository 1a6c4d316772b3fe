-- `Peptide::forms` meets its contract. Assumes nothing.
use Rattle.std.proofs.Common.{sym, ◌∙◌}
use Rattle.std.proofs.lemmas.Result.{err_from_is_err_and}
use Rattle.peptide.specs.FormLaws.{forms_refused, forms_passed, passed_fit}
use Rattle.peptide.proofs.making.Peptide.forms.Goals as goal

pub returns-in_err-test_forms : goal.returns-in_err-test_forms
returns-in_err-test_forms c =
    let a = c.args in
    let p = err_from_is_err_and c.from_residual.result c.from_residual.ensures.1 in
    rw (p.1, p.2) (forms_refused a.self a.variable.now a.fixed.now a.limit a.cap a.out.now _ c.in_err-test_forms.ensures)

pub run-requires : goal.run-requires
run-requires c =
    let a = c.args in
    passed_fit a.self a.variable.now a.fixed.now a.limit (sym c.in_ok-test_forms.ensures)

pub returns : goal.returns
returns c =
    let a = c.args in
    c.run.ensures ∙ forms_passed a.self a.variable.now a.fixed.now a.limit a.cap a.out.now c.in_ok-test_forms.ensures
