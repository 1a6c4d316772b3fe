-- `put_in` meets its contract. Assumes nothing.
use Rattle.enzyme_search.specs.MarkLaws.{put_in_more}
use Rattle.enzyme_marks.proofs.marking.put_in.Goals as goal

pub returns : goal.returns
returns c = let a = c.args in
    put_in_more a.marks.now c.make_way.new.marks a.samples a.j a.t a.head a.left a.right c.requires.0 c.requires.1 c.requires.2 c.make_way.ensures
