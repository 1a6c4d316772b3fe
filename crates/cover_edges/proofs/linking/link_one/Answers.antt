-- `link_one` meets its contract. Assumes nothing.
use native.Mathlib.Omega.{arith}
use lib.ListN.{length-set}
use Rattle.cover_edges.proofs.linking.link_one.Goals as goal

pub bounds-w-h-2 : goal.bounds-w-h-2
bounds-w-h-2 c = simp length-set (omega (arith, c.u32_at-x.ensures, c.requires.f_in_bounds))

pub returns : goal.returns
returns c = rw c.u32_at-x.ensures
