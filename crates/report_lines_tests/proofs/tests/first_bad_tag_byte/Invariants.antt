-- `first_bad_tag_byte` meets its contract. Assumes nothing.
use lib.ListN.{length}
use Rattle.records.specs.SeekingLaws.{Seeking}
use Rattle.report_lines_tests.specs.Testing.{bad_tag_byte, first_bad_tag_byte}
use Rattle.report_lines_tests.proofs.tests.first_bad_tag_byte.Given as goal

abbrev pub invariant-loop-i : goal.invariant-loop-i
invariant-loop-i l = Seeking (bad_tag_byte l.tag) (length l.tag) l.i (first_bad_tag_byte l.tag)
