-- `mark` meets its contract. Assumes nothing.
use Rattle.enzyme_rows.specs.Steps.{RepeatsMarked}
use Rattle.enzyme_rows.proofs.rows.mark.Given as goal

abbrev pub invariant-loop-i : goal.invariant-loop-i
invariant-loop-i l = RepeatsMarked l.order l.runs l.initial.share l.share l.n l.i
