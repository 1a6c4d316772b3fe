-- `enter` meets its contract. Assumes nothing.
use Rattle.modification_table.specs.TableLaws.{entered_found, entered_full, entered_room, entered_new}
use Rattle.modification_table.proofs.table.enter.Goals as goal

pub returns-then-at-n : goal.returns-then-at-n
returns-then-at-n c =
    let a = c.args in
    let f = c.first_equal-at in
    entered_found a.table.now a.count a.entry.mass a.entry.name f.result f.ensures c.if-at-n.true

pub returns-then-n-eq255 : goal.returns-then-n-eq255
returns-then-n-eq255 c =
    let a = c.args in
    let f = c.first_equal-at in
    entered_full a.table.now a.count a.entry.mass a.entry.name f.result f.ensures c.if-at-n.false c.if-n-eq255.true

pub returns-then-table-n : goal.returns-then-table-n
returns-then-table-n c =
    let a = c.args in
    let f = c.first_equal-at in
    entered_room a.table.now a.count a.entry.mass a.entry.name f.result f.ensures c.if-at-n.false c.if-n-eq255.false c.if-table-n.true

pub returns : goal.returns
returns c =
    let a = c.args in
    let f = c.first_equal-at in
    entered_new a.table.now a.count a.entry.mass a.entry.name f.result f.ensures c.if-at-n.false c.if-n-eq255.false c.if-table-n.false c.put_entry.new.table c.put_entry.ensures
