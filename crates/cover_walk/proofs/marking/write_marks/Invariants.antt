-- `write_marks` meets its contract. Assumes nothing.
use Prim.Native.Nat.{◌+◌}
use lib.Dec.{eqb}
use lib.ListN.{get_or}
use Rattle.lists.specs.Lists.{bit}
use Rattle.cover_edges.specs.PutLaws.{Puts}
use Rattle.cover_walk.proofs.marking.write_marks.Given as goal

abbrev pub invariant-loop-i : goal.invariant-loop-i
invariant-loop-i l = Puts (λ g. bit (eqb (get_or l.w (l.a + g) 0) 1)) 0 l.i l.initial.out l.out
