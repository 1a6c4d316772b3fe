-- `offer_halves` meets its contract. Assumes nothing.
use Prim.Native.Nat.{suc, ◌-◌}
use Rattle.enzyme_cuts.specs.Cutting.{range, halves}
use Rattle.enzyme_samples.specs.Ready.{loaded}
use Rattle.enzyme_parts.specs.Going.{Underway}
use Rattle.enzyme_parts.proofs.parts.offer_halves.Given as goal

abbrev pub invariant-loop-c : goal.invariant-loop-c
invariant-loop-c l = Underway l.source.letters.now l.source.far.now l.source.terms (loaded l.times (halves (range l.a l.e 0 0) (suc l.a) (l.e - suc l.a))) l.initial.at l.initial.out l.initial.marks (loaded l.times (halves (range l.a l.e 0 0) l.c (l.e - l.c))) l.at l.out l.marks

abbrev pub decreases-loop-c : goal.decreases-loop-c
decreases-loop-c l = l.e - l.c
