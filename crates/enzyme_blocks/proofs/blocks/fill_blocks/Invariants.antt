-- `fill_blocks` meets its contract: the blocks so far have their least. Assumes nothing.
use mathlib.Core.Path.{◌≡◌}
use Prim.Native.Nat.{ℕ, ◌*◌, ◌<◌, min}
use lib.ListN.{get_or}
use Rattle.enzyme_blocks.specs.Blocks.{Leasts}
use Rattle.enzyme_blocks.proofs.blocks.fill_blocks.Given as goal

abbrev pub invariant-loop-b : goal.invariant-loop-b
invariant-loop-b l = Leasts l.width l.at (min (l.width * l.b) l.n) l.longest l.least × ((i : ℕ) → i < l.at → get_or l.least i 0 ≡ get_or l.initial.least i 0)
