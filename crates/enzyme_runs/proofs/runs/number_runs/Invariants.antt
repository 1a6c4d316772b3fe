-- `number_runs` meets its contract. Assumes nothing.
use mathlib.Core.Path.{◌≡◌}
use lib.ListN.{length}
use Rattle.enzyme_keys.specs.Keys.{key_of}
use Rattle.enzyme_rows.specs.Steps.{RunStarts}
use Rattle.enzyme_rows.specs.TurnLaws.{Passed}
use Rattle.enzyme_runs.proofs.runs.number_runs.Given as goal

abbrev pub invariant-loop-i : goal.invariant-loop-i
invariant-loop-i l = (length l.runs ≡ length l.initial.runs) × RunStarts (key_of l.by) l.order l.runs l.i × Passed l.order l.runs l.i l.last l.run
