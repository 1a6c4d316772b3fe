-- `test_forms` meets its contract: one test after the other. Assumes nothing.
use Rattle.std.proofs.Common.{sym, ◌∙◌}
use Rattle.std.proofs.lemmas.Result.{err_from_is_err_and}
use Rattle.peptide_listing.specs.FormTestLaws.{sizes_fit}
use Rattle.peptide.specs.FormLaws.{forms_tested_large, forms_tested-whole, forms_tested-contents, forms_tested-lists}
use Rattle.peptide.proofs.tests.test_forms.Goals as goal

pub returns-then-too_large : goal.returns-then-too_large
returns-then-too_large c =
    let a = c.args in
    forms_tested_large a.p a.variable.now a.fixed.now a.limit (sym (rw c.from.ensures at c.too_large.ensures) ∙ c.if-too_large.true)

pub returns-then-not_whole : goal.returns-then-not_whole
returns-then-not_whole c =
    let a = c.args in
    forms_tested-whole a.p a.variable.now a.fixed.now a.limit (sym (rw c.from.ensures at c.too_large.ensures) ∙ c.if-too_large.false) (sym c.not_whole.ensures ∙ c.if-not_whole.true)

pub test_contents-requires : goal.test_contents-requires
test_contents-requires c =
    let a = c.args in
    (sizes_fit a.p.len a.variable.now a.fixed.now a.limit (sym (rw c.from.ensures at c.too_large.ensures) ∙ c.if-too_large.false)).0

pub returns-in_err-test_contents : goal.returns-in_err-test_contents
returns-in_err-test_contents c =
    let a = c.args in
    let p = err_from_is_err_and c.from_residual.result c.from_residual.ensures.1 in
    rw (p.1, p.2) (forms_tested-contents a.p a.variable.now a.fixed.now a.limit (sym (rw c.from.ensures at c.too_large.ensures) ∙ c.if-too_large.false) (sym c.not_whole.ensures ∙ c.if-not_whole.false) _ c.in_err-test_contents.ensures)

pub returns : goal.returns
returns c =
    let a = c.args in
    forms_tested-lists a.p a.variable.now a.fixed.now a.limit (sym (rw c.from.ensures at c.too_large.ensures) ∙ c.if-too_large.false) (sym c.not_whole.ensures ∙ c.if-not_whole.false) c.test_lists.result c.in_ok-test_contents.ensures c.test_lists.ensures
