-- `first_bad_name` meets its contract. Assumes nothing.
use mathlib.Core.Path.{sym, ap, ◌∙◌}
use mathlib.Core.Bool.{not}
use native.Mathlib.Omega.{arith}
use Rattle.records.specs.SeekingLaws.{seeking_all, seeking_stop, seeking_on, seeking_end}
use Rattle.catalogue_names.proofs.names.first_bad_name.Goals as goal

pub loop-i-init : goal.loop-i-init
loop-i-init c = seeking_all

pub loop-i-preserved : goal.loop-i-preserved
loop-i-preserved c = seeking_on c.loop-i.invariant (omega arith) (ap not (sym c.is_name_at.ensures ∙ c.if-not-is_name_at.false))

pub returns-then-not-is_name_at : goal.returns-then-not-is_name_at
returns-then-not-is_name_at c = seeking_stop c.loop-i.invariant (omega arith) (ap not (sym c.is_name_at.ensures ∙ c.if-not-is_name_at.true))

pub returns : goal.returns
returns c = let e = seeking_end c.loop-i.invariant (omega arith) in omega arith
