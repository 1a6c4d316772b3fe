-- `name_runs` meets its contract. Assumes nothing.
use Rattle.enzyme_rows.specs.Steps.{Called}
use Rattle.enzyme_rows.proofs.rows.name_runs.Given as goal

abbrev pub invariant-loop-i : goal.invariant-loop-i
invariant-loop-i l = Called l.order l.runs l.initial.name l.name l.i
