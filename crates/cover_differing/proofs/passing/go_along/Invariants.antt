-- `go_along` meets its contract. Assumes nothing.
use Rattle.cover_differing.specs.WalkingLaws.{OnTheWay}
use Rattle.cover_differing.proofs.passing.go_along.Given as goal

abbrev pub invariant-loop-h : goal.invariant-loop-h
invariant-loop-h l = OnTheWay l.pass l.links l.edges.bytes.now l.g l.initial.w l.w l.told l.h

abbrev pub decreases-loop-h : goal.decreases-loop-h
decreases-loop-h l = l.h
