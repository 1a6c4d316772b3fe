-- `list_blocks` meets its contract: the blocks ahead, chosen, give the whole. Assumes nothing.
use native.Mathlib.Omega.{arith}
use mathlib.Core.Path.{◌≡◌, refl, ◌∙◌}
use Prim.Native.Nat.{◌+◌, ◌*◌}
use lib.ListN.{length}
use Rattle.enzyme_blocks.specs.BlockLaws.{block_above}
use Rattle.enzyme_lengths.specs.StartLaws.{walk_kept, walk_full, starting_end}
use Rattle.enzyme_lengths.proofs.listing.list_blocks.Goals as goal

pub list_block-requires : goal.list_block-requires
list_block-requires c = let l = c.loop-b in
    let e = c.block_end-end in
    let x = c.wide-floor in
    let low = block_above 64 0 (length c.args.tables.now.letters.now) c.args.tables.now.longest.now c.args.least.now c.requires.1.small (64 * l.b) l.b l.b e.result x.result refl (omega arith) (omega (arith, e.ensures)) x.ensures.0 in
    (omega (arith, e.ensures), low, c.requires.3, l.invariant.0)

pub returns-in_err-k : goal.returns-in_err-k
returns-in_err-k c = let a = c.args in
    let l = c.loop-b in
    let b = c.block_end-end in
    let x = c.list_block in
    rw c.from_residual.ensures (walk_full a.tables.now.letters.now a.protein a.len 64 (64 * l.b) b.result a.to l.k l.out x.new.out b.ensures (omega (arith, c.div_ceil-b-end.ensures)) (rw c.in_err-k.was at x.ensures.0) ∙ l.invariant.1, x.ensures.1)

pub loop-b-preserved : goal.loop-b-preserved
loop-b-preserved c = let a = c.args in
    let l = c.loop-b in
    let b = c.block_end-end in
    let x = c.list_block in
    let e : 64 * (l.b + 1) ≡ 64 * l.b + 64 = omega arith in
    (x.ensures.1, rw e (walk_kept a.tables.now.letters.now a.protein a.len 64 (64 * l.b) b.result a.to l.k l.out x.new.out b.ensures (omega (arith, c.div_ceil-b-end.ensures)) c.in_ok-k.k (rw c.in_ok-k.was at x.ensures.0) ∙ l.invariant.1))

pub returns : goal.returns
returns c = let a = c.args in
    let l = c.loop-b in
    (rw (starting_end a.len (64 * l.b) a.to (omega (arith, c.div_ceil-b-end.ensures))) at l.invariant.1, l.invariant.0)
