-- `sites_within` meets its contract, size by size; the room grows until it is enough. Assumes nothing.
use Rattle.std.proofs.Common.{◌-◌}
use Rattle.enzyme_set.proofs.tables.+sites_within.Given as goal

abbrev pub decreases-sites_within : goal.decreases-sites_within
decreases-sites_within l = 65536 - l.room
