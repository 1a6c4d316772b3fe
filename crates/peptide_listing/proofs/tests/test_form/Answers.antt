-- `test_form` meets its contract. Assumes nothing.
use Rattle.peptide_listing.specs.FormTestLaws.{form-size, form-length, form-whole}
use Rattle.peptide_listing.proofs.tests.test_form.Goals as goal

pub returns-then-n : goal.returns-then-n
returns-then-n c = form-size c.args.letters.now c.args.form.now c.if-n.true

pub returns-then-form-ne66 : goal.returns-then-form-ne66
returns-then-form-ne66 c = form-length c.args.letters.now c.args.form.now c.if-n.false c.if-form-ne66.true

pub returns : goal.returns
returns c = form-whole c.args.letters.now c.args.form.now c.if-n.false c.if-form-ne66.false
