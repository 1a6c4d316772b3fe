-- `count_from` meets its contract. Assumes nothing.
use Rattle.protein_groups_tables.specs.ProteinLaws.{Rowed}
use Rattle.protein_groups_tables.proofs.grouping.count_from.Given as goal

abbrev pub invariant-loop-i : goal.invariant-loop-i
invariant-loop-i l = Rowed l.initial.w l.w l.o l.n l.i
