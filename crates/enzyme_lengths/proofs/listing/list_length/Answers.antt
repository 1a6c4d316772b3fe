-- `list_length` meets its contract: the great blocks ahead, chosen, give the whole. Assumes nothing.
use native.Mathlib.Omega.{arith}
use mathlib.Core.Path.{◌≡◌, ◌∙◌}
use Prim.Native.Nat.{◌+◌, ◌-◌, ◌*◌}
use lib.ListN.{length}
use Rattle.enzyme_lengths.specs.StartLaws.{walk_kept, walk_full, starting_end}
use Rattle.enzyme_lengths.proofs.listing.list_length.Goals as goal

pub returns-in_err-k : goal.returns-in_err-k
returns-in_err-k c = let a = c.args in
    let l = c.loop-b in
    let b = c.block_end-to in
    let x = c.list_great in
    rw c.from_residual.ensures (walk_full a.tables.now.letters.now a.protein a.len 4096 (4096 * l.b) b.result (length a.tables.now.letters.now + 1 - a.len) l.k l.out x.new.out b.ensures (omega (arith, c.div_ceil-b-end.ensures)) (rw c.in_err-k.was at x.ensures.0) ∙ l.invariant.1, x.ensures.1)

pub loop-b-preserved : goal.loop-b-preserved
loop-b-preserved c = let a = c.args in
    let l = c.loop-b in
    let b = c.block_end-to in
    let x = c.list_great in
    let e : 4096 * (l.b + 1) ≡ 4096 * l.b + 4096 = omega arith in
    (x.ensures.1, rw e (walk_kept a.tables.now.letters.now a.protein a.len 4096 (4096 * l.b) b.result (length a.tables.now.letters.now + 1 - a.len) l.k l.out x.new.out b.ensures (omega (arith, c.div_ceil-b-end.ensures)) c.in_ok-k.k (rw c.in_ok-k.was at x.ensures.0) ∙ l.invariant.1))

pub returns : goal.returns
returns c = let a = c.args in
    let l = c.loop-b in
    (rw (starting_end a.len (4096 * l.b) (length a.tables.now.letters.now + 1 - a.len) (omega (arith, c.div_ceil-b-end.ensures))) at l.invariant.1, l.invariant.0)
