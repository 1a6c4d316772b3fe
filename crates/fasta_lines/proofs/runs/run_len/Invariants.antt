-- `run_len` meets its contract: what was passed and the run of the rest are the whole run. Assumes nothing.
use Prim.Native.Nat.{◌+◌}
use mathlib.Core.Path.{◌≡◌}
use lib.ListN.{drop}
use Rattle.fasta_lines.specs.Lines.{run_of}
use Rattle.fasta_lines.proofs.runs.run_len.Given as goal

abbrev pub invariant-loop-i : goal.invariant-loop-i
invariant-loop-i l = l.i + run_of l.kind (drop l.i l.s) ≡ run_of l.kind l.s
