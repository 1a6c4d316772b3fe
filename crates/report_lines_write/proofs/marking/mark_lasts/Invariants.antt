-- `mark_lasts` meets its contract: after g turns the stretches of g groups are marked. Assumes nothing.
use Rattle.report_lines_write.specs.MarkLaws.{LastsMarked}
use Rattle.report_lines_write.proofs.marking.mark_lasts.Given as goal

abbrev pub invariant-loop-g : goal.invariant-loop-g
invariant-loop-g l = LastsMarked l.initial.w l.c l.g l.w l.count
