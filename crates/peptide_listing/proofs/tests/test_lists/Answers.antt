-- `test_lists` meets its contract. Assumes nothing.
use Rattle.std.proofs.Common.{sym, ◌∙◌}
use Rattle.std.proofs.lemmas.Result.{err_from_is_err_and}
use Rattle.peptide_listing.specs.FormTestLaws.{lists_variable, lists_fixed}
use Rattle.peptide_listing.proofs.tests.test_lists.Goals as goal

pub returns-in_err-field_tested : goal.returns-in_err-field_tested
returns-in_err-field_tested c =
    let a = c.args in
    let f = c.first_bad_rule-v in
    let p = err_from_is_err_and c.from_residual.result c.from_residual.ensures.1 in
    rw (p.1, p.2) (lists_variable a.variable.now a.fixed.now f.result f.ensures _ (sym c.in_err-field_tested.ensures))

pub returns : goal.returns
returns c =
    let a = c.args in
    let f = c.first_bad_rule-v in
    let g = c.first_bad_rule-f in
    c.field_tested-2.ensures
    ∙ lists_fixed a.variable.now a.fixed.now f.result f.ensures (sym c.in_ok-field_tested.ensures) g.result g.ensures
