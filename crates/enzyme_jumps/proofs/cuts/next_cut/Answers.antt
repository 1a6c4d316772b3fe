-- `next_cut` meets its contract. Assumes nothing.
use native.Mathlib.Omega.{arith}
use Rattle.enzyme_jumps.proofs.cuts.next_cut.Goals as goal

pub returns : goal.returns
returns c = let q = c.first_cut.ensures in (q.0, λ x i j. (omega arith, q.1 x i j))
