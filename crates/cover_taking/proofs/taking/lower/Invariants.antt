-- `lower` meets its contract. Assumes nothing.
use Rattle.cover_tables.specs.TableLaws.{Lowered}
use Rattle.cover_taking.proofs.taking.lower.Given as goal

abbrev pub invariant-loop-p : goal.invariant-loop-p
invariant-loop-p l = Lowered l.groups l.a l.e l.initial.w l.w l.p
