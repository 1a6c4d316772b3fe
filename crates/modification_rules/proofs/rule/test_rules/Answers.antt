-- `test_rules` meets its contract. Assumes nothing.
use mathlib.Core.Path.{◌∙◌}
use Rattle.std.proofs.lemmas.Result.{err_from_is_err_and}
use Rattle.modification_rules.specs.RuleLaws.{rules-tested-refused, rules-tested-on}
use Rattle.modification_rules.proofs.rule.test_rules.Goals as goal

pub returns-in_err-test_length : goal.returns-in_err-test_length
returns-in_err-test_length c =
    let a = c.args in
    let t = c.test_length in
    let p = err_from_is_err_and c.from_residual.result c.from_residual.ensures.1 in
    rw (p.1, p.2) (rules-tested-refused a.fixed a.rules.now t.result t.ensures _ c.in_err-test_length.was)

pub returns : goal.returns
returns c =
    let a = c.args in
    let t = c.test_length in
    let f = c.first_bad_rule-bad in
    c.field_tested.ensures
    ∙ rules-tested-on a.fixed a.rules.now t.result t.ensures c.in_ok-test_length.was f.result f.ensures
