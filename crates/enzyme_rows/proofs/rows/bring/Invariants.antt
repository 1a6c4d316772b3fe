-- `bring` meets its contract. Assumes nothing.
use Rattle.enzyme_rows.specs.Steps.{Brought}
use Rattle.enzyme_rows.proofs.rows.bring.Given as goal

abbrev pub invariant-loop-i : goal.invariant-loop-i
invariant-loop-i l = Brought l.order l.runs l.initial.rank l.rank l.i
