-- `test_peptide` meets its contract. Assumes nothing.
use Rattle.peptide_mass.specs.MassLaws.{size_fits}
use Rattle.peptide.specs.PeptideLaws.{peptide_tested-size, peptide_tested-on}
use Rattle.peptide.proofs.tests.test_peptide.Goals as goal

pub returns-then-p : goal.returns-then-p
returns-then-p c = peptide_tested-size c.args.p c.if-p.true

pub test_contents-requires : goal.test_contents-requires
test_contents-requires c = size_fits c.args.p.len c.if-p.false

pub returns : goal.returns
returns c = peptide_tested-on c.args.p c.test_contents.result c.if-p.false c.test_contents.ensures
