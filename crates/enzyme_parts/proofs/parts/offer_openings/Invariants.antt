-- `offer_openings` meets its contract. Assumes nothing.
use Prim.Native.Nat.{suc, ◌-◌}
use Rattle.enzyme_once.specs.Once.{openings}
use Rattle.enzyme_samples.specs.Ready.{loaded}
use Rattle.enzyme_parts.specs.Going.{Underway}
use Rattle.enzyme_parts.proofs.parts.offer_openings.Given as goal

abbrev pub invariant-loop-c : goal.invariant-loop-c
invariant-loop-c l = Underway l.source.letters.now l.source.far.now l.source.terms (loaded l.times (openings l.missed l.a (suc l.b) (l.e - suc l.b))) l.initial.at l.initial.out l.initial.marks (loaded l.times (openings l.missed l.a l.c (l.e - l.c))) l.at l.out l.marks
