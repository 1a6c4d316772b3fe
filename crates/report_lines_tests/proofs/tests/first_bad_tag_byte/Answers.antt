-- `first_bad_tag_byte` meets its contract. Assumes nothing.
use mathlib.Core.Path.{◌≡◌, sym, ◌∙◌}
use native.Mathlib.Omega.{arith}
use lib.ListN.{length}
use Rattle.records.specs.SeekingLaws.{seeking_all, seeking_stop, seeking_on, seeking_end}
use Rattle.report_lines_tests.specs.Testing.{first_bad_tag_byte}
use Rattle.report_lines_tests.proofs.tests.first_bad_tag_byte.Goals as goal

pub loop-i-init : goal.loop-i-init
unfolding first_bad_tag_byte
loop-i-init c = seeking_all

pub returns-then-is_hidden : goal.returns-then-is_hidden
returns-then-is_hidden c = seeking_stop c.loop-i.invariant (omega arith) (sym c.is_hidden.ensures ∙ c.if-is_hidden.true)

pub loop-i-preserved : goal.loop-i-preserved
loop-i-preserved c = seeking_on c.loop-i.invariant (omega arith) (sym c.is_hidden.ensures ∙ c.if-is_hidden.false)

pub returns : goal.returns
returns c = let e : length c.args.tag.now ≡ c.loop-i.i = omega arith in e ∙ seeking_end c.loop-i.invariant (omega arith)
