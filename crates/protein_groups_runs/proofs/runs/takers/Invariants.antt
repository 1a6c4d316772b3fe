-- `takers` meets its contract. Assumes nothing.
use Rattle.protein_groups_runs.specs.TakerLaws.{TakersTo}
use Rattle.protein_groups_runs.proofs.runs.takers.Given as goal

abbrev pub invariant-loop-i : goal.invariant-loop-i
invariant-loop-i l = TakersTo l.initial.w l.w l.e l.m l.o l.i l.k
