-- `thin` meets its contract. Assumes nothing.
use Rattle.enzyme_search.specs.Marks.{Thinning}
use Rattle.enzyme_marks.proofs.marking.thin.Given as goal

abbrev pub invariant-loop-i : goal.invariant-loop-i
invariant-loop-i l = Thinning l.initial.marks l.samples l.i l.marks
