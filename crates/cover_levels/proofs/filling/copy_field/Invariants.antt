-- `copy_field` meets its contract. Assumes nothing.
use Prim.Native.Nat.{◌+◌, ◌*◌}
use Rattle.records.specs.Le.{number_at}
use Rattle.cover_edges.specs.PutLaws.{Puts}
use Rattle.cover_levels.proofs.filling.copy_field.Given as goal

abbrev pub invariant-loop-i : goal.invariant-loop-i
invariant-loop-i l = Puts (λ j. number_at 4 l.edges.bytes.now (8 * j + l.f)) l.a (l.a + l.i) l.initial.w l.w
