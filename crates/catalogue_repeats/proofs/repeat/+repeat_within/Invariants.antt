-- `repeat_within` meets its contract, size by size; the room grows until it is enough. Assumes nothing.
use Prim.Native.Nat.{◌-◌}
use Rattle.catalogue_repeats.proofs.repeat.+repeat_within.Given as goal

abbrev pub decreases-repeat_within : goal.decreases-repeat_within
decreases-repeat_within l = 65536 - l.room
