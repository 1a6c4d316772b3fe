-- `first_equal` meets its contract. Assumes nothing.
use Rattle.records.specs.SeekingLaws.{Seeking}
use Rattle.modification_table.specs.Tables.{equal_entry, first_equal}
use Rattle.modification_table.proofs.table.first_equal.Given as goal

abbrev pub invariant-loop-i : goal.invariant-loop-i
invariant-loop-i l = Seeking (equal_entry l.table l.entry.mass l.entry.name) l.count l.i (first_equal l.table l.entry.mass l.entry.name l.count)
