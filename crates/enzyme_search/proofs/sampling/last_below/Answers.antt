-- `last_below` meets its contract: what it answers was compared. Assumes nothing.
use Prim.Native.Nat.{◌-◌}
use native.Mathlib.Omega.{arith}
use Rattle.enzyme_search.proofs.sampling.last_below.Goals as goal

pub overflow_sub-t : goal.overflow_sub-t
overflow_sub-t c = let k = c.how_many_below-k in
    let w = k.ensures in
    let z = c.if-k-eq0.false in
    c.requires.4.some (k.result - 1) (omega arith)

pub order_at-o-requires : goal.order_at-o-requires
order_at-o-requires c = let p = c.requires in
    let k = c.how_many_below-k in
    let w = k.ensures in
    let z = c.if-k-eq0.false in
    let f = p.4.few (k.result - 1) (omega arith) in
    let s = p.4.some (k.result - 1) (omega arith) in
    (p.0, p.1, omega arith, p.2, p.3)
