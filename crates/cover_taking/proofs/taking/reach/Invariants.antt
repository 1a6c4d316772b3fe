-- `reach` meets its contract. Assumes nothing.
use Rattle.cover_tables.specs.StepLaws.{Reaching}
use Rattle.cover_edges.specs.Records.{edges_in}
use Rattle.cover_taking.proofs.taking.reach.Given as goal

abbrev pub invariant-loop-p : goal.invariant-loop-p
invariant-loop-p l = Reaching l.areas (edges_in l.edges) l.c l.initial.w l.w l.p
