-- `zeros_to` meets its contract. Assumes nothing.
use mathlib.Core.Path.{ap}
use mathlib.Core.Bool.{not}
use native.Mathlib.Omega.{arith}
use borrow.Author.Tests.{eq-eqb, ne_eqb}
use Rattle.catalogue_spec.specs.Names.{zeros_to}
use Rattle.records.specs.SeekingLaws.{seeking_from, seeking_stop, seeking_on, seeking_end}
use Rattle.catalogue_name.proofs.name.zeros_to.Goals as goal

pub loop-i-init : goal.loop-i-init
unfolding zeros_to
loop-i-init c = (omega arith, seeking_from)

pub loop-i-preserved : goal.loop-i-preserved
loop-i-preserved c = (omega arith, seeking_on c.loop-i.invariant.1 (omega arith) (ap not (eq-eqb _ _ c.if-name-i-ne0.false)))

pub returns-then-name-i-ne0 : goal.returns-then-name-i-ne0
returns-then-name-i-ne0 c = seeking_stop c.loop-i.invariant.1 (omega arith) (ap not (ne_eqb _ _ c.if-name-i-ne0.true))

pub returns : goal.returns
returns c = let e = seeking_end c.loop-i.invariant.1 (omega arith) in omega (arith, e, c.max.ensures)
