-- `copy_raised` meets its contract: the first i places hold capitals. Assumes nothing.
use Prim.Native.Nat.{ℕ, ◌<◌}
use mathlib.Core.Path.{◌≡◌}
use lib.ListN.{get_or}
use Rattle.letters.specs.Letters.{capital}
use Rattle.enzyme_ways.proofs.reading.copy_raised.Given as goal

abbrev pub invariant-loop-i : goal.invariant-loop-i
invariant-loop-i l = (j : ℕ) → j < l.i → get_or l.table j 0 ≡ capital (get_or l.letters j 0)
