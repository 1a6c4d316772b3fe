-- `follow` meets its contract: each record that it comes to is of the list. Assumes nothing.
use Rattle.enzyme_search.specs.Marks.{Has0}
use Rattle.enzyme_marks.proofs.marking.follow.Given as goal

abbrev pub invariant-loop : goal.invariant-loop
invariant-loop l = Has0 l.count l.head l.out l.at
