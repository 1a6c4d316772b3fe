-- `first_bad_rule` meets its contract. Assumes nothing.
use Rattle.records.specs.SeekingLaws.{Seeking}
use Rattle.modification_rules.specs.Rules.{no_rule, first_bad_rule}
use Rattle.modification_rules.proofs.rule.first_bad_rule.Given as goal

abbrev pub invariant-loop-r : goal.invariant-loop-r
invariant-loop-r l = Seeking (no_rule l.fixed l.rules) l.n l.r (first_bad_rule l.fixed l.rules)
