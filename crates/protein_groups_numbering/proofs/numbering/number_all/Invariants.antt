-- `number_all` meets its contract. Assumes nothing.
use Rattle.protein_groups_numbering.specs.KnowingLaws.{PartNumbered}
use Rattle.protein_groups_numbering.proofs.numbering.number_all.Given as goal

abbrev pub invariant-loop-i : goal.invariant-loop-i
invariant-loop-i l = PartNumbered l.initial.w l.w l.b l.t l.m l.l l.n l.i l.found
