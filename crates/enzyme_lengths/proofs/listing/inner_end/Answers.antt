-- `inner_end` meets its contract. Assumes nothing.
use Rattle.enzyme_lengths.specs.PositionLaws.{last_apart, none_apart}
use Rattle.enzyme_lengths.proofs.listing.inner_end.Goals as goal

pub returns-then-from-to : goal.returns-then-from-to
returns-then-from-to c = let a = c.args in last_apart a.n a.len a.from a.to c.requires.1 c.requires.2 c.requires.3 c.if-from-to.true

pub returns-else-from-to : goal.returns-else-from-to
returns-else-from-to c = let a = c.args in none_apart a.n a.len a.from a.to c.requires.1 c.requires.2 c.requires.3 c.if-from-to.false
