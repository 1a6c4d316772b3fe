-- `forced` meets its contract. Assumes nothing.
use Rattle.cover_first.specs.FirstLaws.{Forced}
use Rattle.cover_first.proofs.marking.forced.Given as goal

abbrev pub invariant-loop-i : goal.invariant-loop-i
invariant-loop-i l = Forced l.areas l.edges.bytes.now l.initial.w l.w l.i
