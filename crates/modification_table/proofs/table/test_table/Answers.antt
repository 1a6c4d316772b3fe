-- `test_table` meets its contract. Assumes nothing.
use Rattle.modification_table.specs.TableLaws.{table-tested-size, table-tested-length, table-tested-passed}
use Rattle.modification_table.proofs.table.test_table.Goals as goal

pub returns-then-count-gt255 : goal.returns-then-count-gt255
returns-then-count-gt255 c =
    let a = c.args in
    table-tested-size a.table.now a.count c.if-count-gt255.true

pub returns-then-table-n : goal.returns-then-table-n
returns-then-table-n c =
    let a = c.args in
    table-tested-length a.table.now a.count c.if-count-gt255.false c.if-table-n.true

pub returns-else-table-n : goal.returns-else-table-n
returns-else-table-n c =
    let a = c.args in
    table-tested-passed a.table.now a.count c.if-count-gt255.false c.if-table-n.false
