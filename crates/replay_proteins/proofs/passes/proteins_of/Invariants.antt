-- `proteins_of` meets its contract. Assumes nothing.
use Prim.Native.Nat.{◌≤◌}
use lib.ListN.{length}
use mathlib.Core.Path.{◌≡◌}
use Rattle.replay_proteins.proofs.passes.proteins_of.Given as goal

abbrev pub invariant-loop-k : goal.invariant-loop-k
invariant-loop-k l = (l.n ≤ length l.out) × (length l.out ≡ length l.initial.out) × (l.n ≤ l.k)
