-- `Peptide::of_form` meets its contract. Assumes nothing.
use Rattle.std.proofs.Common.{◌≤◌, length, sym, subst}
use Rattle.std.proofs.lemmas.Result.{err_from_is_err_and}
use Rattle.peptide_listing.specs.FormTestLaws.{form_sized}
use Rattle.peptide_mass.specs.MassLaws.{size_fits}
use Rattle.peptide.specs.declared.making.Peptide.{Peptide}
use Rattle.peptide.specs.Peptides.{peptide_from}
use Rattle.peptide.specs.PeptideLaws.{of_form-refused, of_form-tested, made-refused, made_given}
use Rattle.peptide.proofs.making.Peptide.of_form.Goals as goal

pub returns-in_err-test_form : goal.returns-in_err-test_form
returns-in_err-test_form c =
    let a = c.args in
    let t = c.test_form in
    let p = err_from_is_err_and c.from_residual.result c.from_residual.ensures.1 in
    rw (p.1, p.2) (made-refused _ _ (peptide_from a.letters.now a.form.now a.position a.decoy) (of_form-refused a.letters.now a.form.now a.position a.decoy t.result t.ensures _ c.in_err-test_form.was))

pub given-peptide-requires : goal.given-peptide-requires
given-peptide-requires c =
    let a = c.args in
    size_fits (length a.letters.now) (form_sized a.letters.now a.form.now (sym c.in_ok-test_form.ensures))

pub test_contents-requires : goal.test_contents-requires
test_contents-requires c =
    let a = c.args in
    subst (λ (p : Peptide). p.len ≤ 64) (sym c.given-peptide.ensures) (size_fits (length a.letters.now) (form_sized a.letters.now a.form.now (sym c.in_ok-test_form.ensures)))

pub returns-in_err-test_contents : goal.returns-in_err-test_contents
returns-in_err-test_contents c =
    let a = c.args in
    let t = c.test_form in
    let g = c.given-peptide in
    let u = c.test_contents in
    let p = err_from_is_err_and c.from_residual-in_err-test_contents.result c.from_residual-in_err-test_contents.ensures.1 in
    rw (p.1, p.2)
    (made-refused _ _ (peptide_from a.letters.now a.form.now a.position a.decoy) (of_form-tested a.letters.now a.form.now a.position a.decoy t.result t.ensures c.in_ok-test_form.was g.result g.ensures u.result _ u.ensures c.in_err-test_contents.was))

pub returns : goal.returns
returns c =
    let a = c.args in
    let t = c.test_form in
    let p = c.given-peptide in
    let u = c.test_contents in
    made_given _ (peptide_from a.letters.now a.form.now a.position a.decoy) p.result (of_form-tested a.letters.now a.form.now a.position a.decoy t.result t.ensures c.in_ok-test_form.was p.result p.ensures u.result _ u.ensures c.in_ok-test_contents.was) p.ensures
