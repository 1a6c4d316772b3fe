-- `list_semi` meets its contract: a whole run, with the links sealed. Assumes nothing.
use Rattle.enzyme_semi.specs.SemiLaws.{semi_room, semi_listed}
use Rattle.enzyme_halves.proofs.semis.list_semi.Goals as goal

pub finish-requires : goal.finish-requires
finish-requires c =
    let a = c.args in
    let p = c.requires in
    let o = c.offer_semi-run.ensures in
    semi_room o.0 a.knife a.missed a.source.now.letters.now a.starts.now a.m p.2 a.source.now.far.now a.out.now a.marks.now a.source.now.terms p.0 p.3 _ _ _ o.1

pub returns : goal.returns
returns c =
    let a = c.args in
    let p = c.requires in
    let o = c.offer_semi-run.ensures in
    let e = c.finish.ensures in
    rw (e.0, e.1) (semi_listed o.0 a.knife a.missed a.source.now.letters.now a.starts.now a.m p.2 a.source.now.far.now a.out.now a.marks.now a.source.now.terms p.0 p.3 _ _ _ o.1)
