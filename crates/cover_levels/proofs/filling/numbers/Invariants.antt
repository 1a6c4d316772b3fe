-- `numbers` meets its contract. Assumes nothing.
use Prim.Native.Nat.{◌+◌, ◌-◌}
use Rattle.cover_edges.specs.PutLaws.{Puts}
use Rattle.cover_levels.proofs.filling.numbers.Given as goal

abbrev pub invariant-loop-i : goal.invariant-loop-i
invariant-loop-i l = Puts (λ j. l.n - 1 - j) l.a (l.a + l.i) l.initial.w l.w
