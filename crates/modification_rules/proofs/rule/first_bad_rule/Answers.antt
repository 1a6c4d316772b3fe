-- `first_bad_rule` meets its contract. Assumes nothing.
use mathlib.Core.Path.{sym, ap, ◌∙◌}
use mathlib.Core.Bool.{not}
use native.Mathlib.Omega.{arith}
use Rattle.records.specs.SeekingLaws.{seeking_all, seeking_stop, seeking_on, seeking_end}
use Rattle.modification_rules.specs.Rules.{first_bad_rule}
use Rattle.modification_rules.proofs.rule.first_bad_rule.Goals as goal

pub loop-r-init : goal.loop-r-init
unfolding first_bad_rule
loop-r-init c = seeking_all

pub is_good-requires : goal.is_good-requires
is_good-requires c = omega arith

pub loop-r-preserved : goal.loop-r-preserved
loop-r-preserved c = seeking_on c.loop-r.invariant (omega arith) (ap not (sym c.is_good.ensures ∙ c.if-not-is_good.false))

pub returns-then-not-is_good : goal.returns-then-not-is_good
returns-then-not-is_good c = seeking_stop c.loop-r.invariant (omega arith) (ap not (sym c.is_good.ensures ∙ c.if-not-is_good.true))

pub returns : goal.returns
returns c = let e = seeking_end c.loop-r.invariant (omega arith) in omega arith
