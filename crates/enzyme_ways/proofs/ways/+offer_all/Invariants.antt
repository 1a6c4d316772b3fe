-- `offer_all` meets its contract. Assumes nothing.
use Rattle.enzyme_ways.specs.Ways.{looks_again}
use Rattle.enzyme_ways.proofs.ways.+offer_all.Given as goal

abbrev pub decreases-offer_all : goal.decreases-offer_all
decreases-offer_all l = looks_again l.enzyme.kind
