-- `letter_count` meets its contract: what was counted and what the rest holds are all. Assumes nothing.
use Prim.Native.Nat.{◌+◌, ◌≤◌}
use mathlib.Core.Path.{◌≡◌}
use lib.ListN.{length, drop}
use Rattle.fasta_lines.specs.Lines.{together}
use Rattle.fasta_lines.proofs.together.letter_count.Given as goal

abbrev pub invariant-loop-i : goal.invariant-loop-i
invariant-loop-i l = (l.n ≤ l.i) × (l.n + length (together (drop l.i l.s)) ≡ length (together l.s))
