-- `entry_len` meets its contract: what was looked at and the entry of the rest are the whole; the byte before i is the last that was. Assumes
-- nothing.
use Prim.Native.Nat.{◌+◌, ◌-◌, ◌≤◌}
use mathlib.Core.Path.{◌≡◌}
use lib.ListN.{length, drop}
use Rattle.fasta_lines.specs.Lines.{entry_length}
use Rattle.fasta_lines.proofs.entries.entry_len.Given as goal

abbrev pub invariant-loop-i : goal.invariant-loop-i
invariant-loop-i l = (1 ≤ l.i) × (l.i - 1 ≤ length l.s) × (l.i - 1 + entry_length (drop (l.i - 1) l.s) ≡ entry_length l.s)
