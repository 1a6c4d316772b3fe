-- `copy_run` meets its contract. Assumes nothing.
use Rattle.protein_groups_numbering.specs.SpreadLaws.{RunCopied}
use Rattle.protein_groups_numbering.proofs.spreading.copy_run.Given as goal

abbrev pub invariant-loop-i : goal.invariant-loop-i
invariant-loop-i l = RunCopied l.initial.w l.w l.from l.i l.a l.b l.g
