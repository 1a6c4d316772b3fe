-- `first_bad_protein` meets its contract. Assumes nothing.
use lib.ListN.{length}
use Rattle.records.specs.SeekingLaws.{Seeking}
use Rattle.report_lines_tests.specs.Testing.{bad_protein, first_bad_protein}
use Rattle.report_lines_tests.proofs.tests.first_bad_protein.Given as goal

abbrev pub invariant-loop-i : goal.invariant-loop-i
invariant-loop-i l = Seeking (bad_protein l.list l.proteins) (length l.list) l.i (first_bad_protein l.list l.proteins)
