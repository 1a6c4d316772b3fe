-- `covered` meets its contract. Assumes nothing.
use Rattle.cover_first.specs.FirstLaws.{Covered}
use Rattle.cover_first.proofs.marking.covered.Given as goal

abbrev pub invariant-loop-i : goal.invariant-loop-i
invariant-loop-i l = Covered l.groups l.metas l.edges.bytes.now l.initial.w l.w l.i
