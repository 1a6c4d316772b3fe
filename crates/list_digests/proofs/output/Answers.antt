-- `output` meets its contract: an array is as long as its type says, whatever its length. Assumes nothing.
use Prim.Native.Nat.{ℕ}
use mathlib.Core.Path.{sym}
use lib.ListN.{length-replicate}
use Rattle.list_digests.proofs.output.Goals as goal

pub returns : goal.returns
returns c = sym (length-replicate {0} {A = ℕ} 2621440 0)
