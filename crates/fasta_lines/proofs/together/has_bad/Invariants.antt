-- `has_bad` meets its contract: what was found and what the rest holds are all. Assumes nothing.
use Prim.Native.Nat.{◌+◌}
use mathlib.Core.Path.{◌≡◌}
use mathlib.Core.Bool.{◌||◌}
use lib.ListN.{length, drop}
use Rattle.fasta_lines.specs.LineLaws.{some_bad}
use Rattle.fasta_lines.proofs.together.has_bad.Given as goal

abbrev pub invariant-loop-i : goal.invariant-loop-i
invariant-loop-i l = (l.last + 1 ≡ length l.s) × ((l.found || some_bad (drop l.i l.s)) ≡ some_bad l.s)
