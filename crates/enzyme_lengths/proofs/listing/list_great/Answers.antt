-- `list_great` meets its contract: of a great block that has enough nothing is chosen. Assumes nothing.
use native.Mathlib.Omega.{arith}
use mathlib.Core.Path.{refl}
use Prim.Native.Nat.{◌+◌, ◌/◌}
use lib.ListN.{length}
use Rattle.enzyme_blocks.specs.BlockLaws.{block_above}
use Rattle.enzyme_lengths.specs.StartLaws.{block_passed}
use Rattle.enzyme_lengths.proofs.listing.list_great.Goals as goal

pub returns-then-len-floor : goal.returns-then-len-floor
returns-then-len-floor c = let a = c.args in
    let x = c.wide-floor in
    let b = a.from / 4096 in
    let low = block_above 4096 1024 (length a.tables.now.letters.now) a.tables.now.longest.now a.least.now c.requires.1.great a.from b (1024 + b) a.to x.result (omega arith) refl c.requires.4 x.ensures.0 in
    (block_passed a.tables.now.letters.now a.protein a.len a.count a.out.now a.tables.now.longest.now a.from a.to x.result c.args.tables.now.measured c.requires.0 low c.if-len-floor.true, c.requires.6)
