-- `write_text` meets its contract: what is left of the walk is still to come. Assumes nothing.
use lib.ListN.{length}
use Rattle.sorting_texts.specs.Walk.{left_from}
use Rattle.report_lines_texts.specs.WalkLaws.{Writing}
use Rattle.report_lines_texts.proofs.writing.Texts.write_text.Given as goal

abbrev pub invariant-loop-step : goal.invariant-loop-step
invariant-loop-step l = Writing l.self.names.now l.self.keys.now l.x l.initial.out l.at l.out l.entry l.i l.k

abbrev pub decreases-loop-step : goal.decreases-loop-step
decreases-loop-step l = length (left_from l.self.names.now l.self.keys.now l.entry l.i)
