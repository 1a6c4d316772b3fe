-- `offer_raised` meets its contract. Assumes nothing.
use Rattle.std.proofs.Common.{◌-◌}
use Rattle.enzyme_ways.proofs.reading.+offer_raised.Given as goal

abbrev pub decreases-offer_raised : goal.decreases-offer_raised
decreases-offer_raised l = 65536 - l.room
