-- `keep` meets its contract. Assumes nothing.
use Rattle.enzyme_rows.specs.Steps.{goes_on, Kept}
use Rattle.enzyme_runs.proofs.keeping.keep.Given as goal

abbrev pub invariant-loop-i : goal.invariant-loop-i
invariant-loop-i l = Kept (goes_on l.initial.order l.runs l.g l.m l.n) l.initial.order l.order l.i l.k
