-- `counts` meets its contract. Assumes nothing.
use Rattle.cover_first.specs.FirstLaws.{OpenCounted}
use Rattle.cover_first.proofs.marking.counts.Given as goal

abbrev pub invariant-loop-i : goal.invariant-loop-i
invariant-loop-i l = OpenCounted l.groups l.edges.bytes.now l.initial.w l.w l.i
