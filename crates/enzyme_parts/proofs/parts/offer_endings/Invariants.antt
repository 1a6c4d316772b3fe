-- `offer_endings` meets its contract. Assumes nothing.
use Prim.Native.Nat.{suc, ◌-◌}
use Rattle.enzyme_once.specs.Once.{endings}
use Rattle.enzyme_samples.specs.Ready.{loaded}
use Rattle.enzyme_parts.specs.Going.{Underway}
use Rattle.enzyme_parts.proofs.parts.offer_endings.Given as goal

abbrev pub invariant-loop-c : goal.invariant-loop-c
invariant-loop-c l = Underway l.source.letters.now l.source.far.now l.source.terms (loaded l.times (endings l.missed l.e (suc l.a) (l.z - suc l.a))) l.initial.at l.initial.out l.initial.marks (loaded l.times (endings l.missed l.e l.c (l.z - l.c))) l.at l.out l.marks
