-- `name_length` meets its contract. Assumes nothing.
use mathlib.Core.Path.{sym, ap, ◌∙◌}
use mathlib.Core.Bool.{not}
use native.Mathlib.Omega.{arith}
use Rattle.catalogue_spec.specs.Names.{name_length}
use Rattle.records.specs.SeekingLaws.{seeking_all, seeking_stop, seeking_on, seeking_end}
use Rattle.catalogue_name.proofs.name.name_length.Goals as goal

pub loop-i-init : goal.loop-i-init
unfolding name_length
loop-i-init c = seeking_all

pub loop-i-preserved : goal.loop-i-preserved
loop-i-preserved c = seeking_on c.loop-i.invariant (omega arith) (ap not (sym c.is_visible.ensures ∙ c.if-not-is_visible.false))

pub returns-then-not-is_visible : goal.returns-then-not-is_visible
returns-then-not-is_visible c = seeking_stop c.loop-i.invariant (omega arith) (ap not (sym c.is_visible.ensures ∙ c.if-not-is_visible.true))

pub returns : goal.returns
returns c = let e = seeking_end c.loop-i.invariant (omega arith) in omega arith
