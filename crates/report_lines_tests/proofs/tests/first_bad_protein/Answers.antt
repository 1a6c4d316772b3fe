-- `first_bad_protein` meets its contract. Assumes nothing.
use native.Mathlib.Omega.{arith}
use mathlib.Core.Path.{◌≡◌, ◌∙◌}
use borrow.Author.Tests.{le-leb, lt-leb}
use lib.ListN.{length}
use Rattle.records.specs.SeekingLaws.{seeking_all, seeking_stop, seeking_on, seeking_end}
use Rattle.report_lines_tests.specs.Testing.{first_bad_protein}
use Rattle.report_lines_tests.proofs.tests.first_bad_protein.Goals as goal

pub loop-i-init : goal.loop-i-init
unfolding first_bad_protein
loop-i-init c = seeking_all

pub returns-then-proteins-protein : goal.returns-then-proteins-protein
returns-then-proteins-protein c = seeking_stop c.loop-i.invariant (omega arith) (le-leb _ _ c.if-proteins-protein.true)

pub loop-i-preserved : goal.loop-i-preserved
loop-i-preserved c = seeking_on c.loop-i.invariant (omega arith) (lt-leb _ _ c.if-proteins-protein.false)

pub returns : goal.returns
returns c = let e : length c.args.list.now ≡ c.loop-i.i = omega arith in e ∙ seeking_end c.loop-i.invariant (omega arith)
