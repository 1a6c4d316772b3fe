-- `fill_least` meets its contract: the great blocks' numbers stand behind the others. Assumes nothing.
use native.Mathlib.Omega.{arith}
use Rattle.enzyme_blocks.specs.BlockLaws.{leasts_kept}
use Rattle.enzyme_blocks.proofs.blocks.fill_least.Goals as goal

pub returns : goal.returns
returns c = let a = c.args in
    let first = c.fill_blocks in
    let then = c.fill_blocks-2 in
    record {
      wide = omega arith;
      small = leasts_kept 64 0 a.n a.longest.now first.new.least then.new.least 1024 first.ensures.0 (omega arith) then.ensures.1;
      great = then.ensures.0;
    }
