-- `put_letters` meets its contract: what is still to be stored from k on gives the whole. Assumes nothing.
use Prim.Native.Nat.{◌+◌, ◌≤◌}
use mathlib.Core.Path.{◌≡◌}
use lib.ListN.{length, drop}
use lib.Seq.{sets}
use Rattle.letters.specs.Letters.{capitals}
use Rattle.fasta_lines.specs.Lines.{together}
use Rattle.fasta_lines.proofs.together.put_letters.Given as goal

abbrev pub invariant-loop-b : goal.invariant-loop-b
invariant-loop-b l = (l.k ≤ l.b-index) × (sets l.out l.k (capitals (together (drop l.b-index l.s))) ≡ sets l.initial.out 0 (capitals (together l.s))) × (l.k + length (together (drop l.b-index l.s)) ≡ length (together l.s))
