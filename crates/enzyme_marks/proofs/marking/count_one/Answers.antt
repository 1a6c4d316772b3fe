-- `count_one` meets its contract. Assumes nothing.
use Rattle.enzyme_search.specs.MarkLaws.{sized_alike}
use Rattle.enzyme_marks.proofs.marking.count_one.Goals as goal

pub returns : goal.returns
returns c = let a = c.args in
    sized_alike a.marks.now a.j c.saturating_add-size.result
