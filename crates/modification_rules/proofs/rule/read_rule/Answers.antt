-- `read_rule` meets its contract. Assumes nothing.
use mathlib.Core.Path.{sym, ◌∙◌}
use Rattle.std.proofs.lemmas.Result.{err_from_is_err_and}
use Rattle.modification_rules.specs.RuleLaws.{read-refused, read_none, read_bad, read_good}
use Rattle.modification_rules.proofs.rule.read_rule.Goals.{else-r-rules-via-then-r-rules+else-is_good, else-r-rules-via-else-r-rules}
use Rattle.modification_rules.proofs.rule.read_rule.Goals as goal

pub returns-in_err-test_length : goal.returns-in_err-test_length
returns-in_err-test_length c =
    let a = c.args in
    let t = c.test_length in
    let p = err_from_is_err_and c.from_residual.result c.from_residual.ensures.1 in
    rw (p.1, p.2) (read-refused a.rules.now a.r t.result t.ensures _ c.in_err-test_length.was)

pub returns-then-is_good : goal.returns-then-is_good
returns-then-is_good c =
    let a = c.args in
    let t = c.test_length in
    read_good a.rules.now a.r t.result t.ensures c.in_ok-test_length.was c.if-r-rules.true
    (sym c.is_good.ensures ∙ c.if-is_good.true) c.rule_at.result c.rule_at.ensures

pub returns : goal.returns
returns c =
    let a = c.args in
    let t = c.test_length in
    let passed = c.in_ok-test_length.was in
    elim c.else-r-rules.branch [
      | else-r-rules-via-then-r-rules+else-is_good w ↦ read_bad a.rules.now a.r t.result t.ensures passed w.if-r-rules.true (sym w.is_good.ensures ∙ w.if-is_good.false)
      | else-r-rules-via-else-r-rules w ↦ read_none a.rules.now a.r t.result t.ensures passed w.if-r-rules.false
    ]
