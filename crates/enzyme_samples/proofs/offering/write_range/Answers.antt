-- `write_range` meets its contract. Assumes nothing.
use Rattle.enzyme_cuts.specs.Cutting.{range}
use Rattle.enzyme_samples.specs.Ready.{weighted}
use Rattle.enzyme_samples.specs.RangeLaws.{written_new, written-left}
use Rattle.enzyme_samples.proofs.offering.write_range.Goals as goal

pub write-at-requires : goal.write-at-requires
write-at-requires c = let a = c.args in
    let h = c.requires.0 in
    (h.keeps, h.inside.0, h.inside.1, written_new a.source.now.letters.now a.source.now.far.now a.source.now.terms (weighted (range a.a a.e a.missed a.semi) a.times) a.run a.out.now a.marks.now c.requires.1 h, h.brims)

pub returns : goal.returns
returns c = let a = c.args in
    written-left a.source.now.letters.now a.source.now.far.now a.source.now.terms (weighted (range a.a a.e a.missed a.semi) a.times) a.run a.out.now a.marks.now c.requires.1 _ c.write-at.result a.run.limit c.write-at.ensures
