-- `spread_runs` meets its contract. Assumes nothing.
use Rattle.protein_groups_numbering.specs.SpreadLaws.{Spreading}
use Rattle.protein_groups_numbering.proofs.spreading.spread_runs.Given as goal

abbrev pub invariant-loop-j : goal.invariant-loop-j
invariant-loop-j l = Spreading l.initial.w l.w l.plan l.t l.j l.seen l.k
