-- `list_block` meets its contract: of a block that has enough nothing is chosen. Assumes nothing.
use Rattle.enzyme_lengths.specs.StartLaws.{block_passed}
use Rattle.enzyme_lengths.proofs.listing.list_block.Goals as goal

pub returns-then-len-least : goal.returns-then-len-least
returns-then-len-least c = let a = c.args in
    (block_passed a.tables.now.letters.now a.protein a.len a.count a.out.now a.tables.now.longest.now a.from a.to a.least c.args.tables.now.measured c.requires.0 c.requires.1 c.if-len-least.true, c.requires.3)
