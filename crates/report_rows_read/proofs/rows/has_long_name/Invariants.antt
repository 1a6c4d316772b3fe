-- `has_long_name` meets its contract. Assumes nothing.
use Prim.Native.Nat.{◌+◌, ◌-◌, ◌≤◌}
use lib.ListN.{length}
use Rattle.report_rows_read.proofs.rows.has_long_name.Given as goal

abbrev pub invariant-loop-at : goal.invariant-loop-at
invariant-loop-at l = l.at ≤ length l.line + 1

abbrev pub decreases-loop-at : goal.decreases-loop-at
decreases-loop-at l = (length l.line + 1) - l.at
