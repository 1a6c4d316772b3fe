-- `seal` meets its contract: the first k links are sealed. Assumes nothing.
use mathlib.Core.Path.{◌≡◌}
use lib.ListN.{length}
use Rattle.enzyme_keep.specs.Buffer.{sealed}
use Rattle.enzyme_keep.proofs.sealing.seal.Given as goal

abbrev pub invariant-loop-k : goal.invariant-loop-k
invariant-loop-k l = (length l.out ≡ length l.initial.out) × (l.out ≡ sealed l.p l.k l.initial.out)
