-- `order_at` meets its contract: the range that was read lies within the letters. Assumes nothing.
use Prim.Native.Nat.{◌≤◌}
use lib.ListN.{length}
use Rattle.enzyme_keep.specs.BufferLaws.{read_inside}
use Rattle.enzyme_list.specs.ChainLaws.{range-read}
use Rattle.enzyme_list.proofs.order.order_at.Goals.{After-u32_at-end}
use Rattle.enzyme_list.proofs.order.order_at.Goals as goal

-- the start and the end that were read lie within the letters
ok : (c : After-u32_at-end) → (c.u32_at-start.result ≤ c.u32_at-end.result) × (c.u32_at-end.result ≤ length c.args.letters.now)
ok c = let a = c.args in
    read_inside a.count a.out.now a.j _ _ c.requires.2 c.u32_at-start.ensures c.u32_at-end.ensures (length a.letters.now) c.requires.1

pub slice_bounds-order-count : goal.slice_bounds-order-count
slice_bounds-order-count c = (ok (goal.at.slice_bounds-order-count c).After-u32_at-end).0

pub slice_bounds-order-start : goal.slice_bounds-order-start
slice_bounds-order-start c = (ok (goal.at.slice_bounds-order-start c).After-u32_at-end).0

pub slice_bounds-order-end : goal.slice_bounds-order-end
slice_bounds-order-end c = (ok (goal.at.slice_bounds-order-end c).After-u32_at-end).1

pub returns : goal.returns
returns c = let a = c.args in
    let r = range-read a.count a.out.now a.j c.requires.2 in
    rw (r, ← c.u32_at-start.ensures, ← c.u32_at-end.ensures) c.order.ensures
