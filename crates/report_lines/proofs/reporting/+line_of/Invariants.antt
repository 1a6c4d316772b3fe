-- `line_of` meets its contract, size by size; the room grows until it is enough. Assumes nothing.
use Prim.Native.Nat.{◌-◌}
use Rattle.report_lines.proofs.reporting.+line_of.Given as goal

abbrev pub decreases-line_of : goal.decreases-line_of
decreases-line_of l = 131072 - l.room
