-- `is_good` meets its contract. Assumes nothing.
use Rattle.modification_rules.specs.Rules.{good_rule}
use Rattle.modification_rules.proofs.rule.is_good.Goals as goal

pub returns : goal.returns
unfolding good_rule
returns c = cc
