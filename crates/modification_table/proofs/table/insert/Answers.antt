-- `insert` meets its contract. Assumes nothing.
use mathlib.Core.Path.{sym, ◌∙◌}
use Rattle.std.proofs.lemmas.Result.{err_from_is_err_and}
use Rattle.modification_table.specs.TableLaws.{insert-refused, insert-passed, passed_few}
use Rattle.modification_table.proofs.table.insert.Goals as goal

pub returns-in_err-test_table : goal.returns-in_err-test_table
returns-in_err-test_table c =
    let a = c.args in
    let p = err_from_is_err_and c.from_residual.result c.from_residual.ensures.1 in
    rw (p.1, p.2) (insert-refused a.table.now a.count a.mass a.name _ (sym c.in_err-test_table.was ∙ c.test_table.ensures))

pub enter-requires : goal.enter-requires
enter-requires c =
    let a = c.args in
    passed_few a.table.now a.count (sym c.in_ok-test_table.was ∙ c.test_table.ensures)

pub returns : goal.returns
returns c =
    let a = c.args in
    c.enter.ensures ∙ insert-passed a.table.now a.count a.mass a.name (sym c.in_ok-test_table.was ∙ c.test_table.ensures)
