-- `each_alone` meets its contract. Assumes nothing.
use Prim.Native.Nat.{◌+◌}
use Rattle.cover_edges.specs.PutLaws.{Puts}
use Rattle.cover_joining.proofs.joining.each_alone.Given as goal

abbrev pub invariant-loop-x : goal.invariant-loop-x
invariant-loop-x l = Puts (λ y. y) l.p (l.p + l.x) l.initial.w l.w
