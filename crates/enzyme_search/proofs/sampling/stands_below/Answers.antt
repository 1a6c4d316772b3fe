-- `stands_below` meets its contract. Assumes nothing.
use native.Mathlib.Omega.{arith}
use Rattle.enzyme_search.proofs.sampling.stands_below.Goals as goal

pub overflow_sub-t : goal.overflow_sub-t
overflow_sub-t c = c.requires.4.some c.args.j c.requires.5

pub order_at-requires : goal.order_at-requires
order_at-requires c = let p = c.requires in
    let f = p.4.few c.args.j p.5 in
    let s = p.4.some c.args.j p.5 in
    (p.0, p.1, omega arith, p.2, p.3)
