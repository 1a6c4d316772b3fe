-- `seek_range` meets its contract. Assumes nothing.
use Rattle.enzyme_cuts.specs.Cutting.{range, site, part}
use Rattle.enzyme_search.specs.MarkLaws.{listed-numbered, below_begun}
use Rattle.enzyme_samples.specs.Ready.{weighted}
use Rattle.enzyme_samples.specs.RangeLaws.{sought_left, sought_noted, sought_marked}
use Rattle.enzyme_samples.proofs.offering.seek_range.Goals as goal

pub last_below-k-requires : goal.last_below-k-requires
last_below-k-requires c = let a = c.args in
    let h = c.requires.0 in
    (h.keeps.fits, h.keeps.inside, h.inside.0, h.inside.1, listed-numbered a.run.count a.run.head a.out.now a.marks.now a.run.samples h.marked)

pub offer-at-requires : goal.offer-at-requires
offer-at-requires c = let a = c.args in
    let h = c.requires.0 in
    (h.keeps, h.inside.0, h.inside.1, h.knows a.a a.e h.inside.0 h.inside.1 c.requires.1, rw c.sample-from.ensures (below_begun a.run.count a.run.head a.out.now a.marks.now a.run.samples h.marked a.source.now.letters.now (part a.source.now.letters.now (site a.a a.e)) c.last_below-k.result h.keeps c.last_below-k.ensures), h.brims)

pub returns-then-at-run : goal.returns-then-at-run
returns-then-at-run c = let a = c.args in
    let g = c.offer-at.ensures in
    sought_left a.source.now.letters.now a.source.now.far.now a.source.now.terms (weighted (range a.a a.e a.missed a.semi) a.times) a.run a.out.now a.marks.now _ a.marks.now c.offer-at.result a.run.samples a.run.limit g (sought_marked a.source.now.letters.now a.source.now.far.now a.source.now.terms (weighted (range a.a a.e a.missed a.semi) a.times) a.run a.out.now a.marks.now _ a.marks.now c.offer-at.result c.requires.0 g)

pub note-requires : goal.note-requires
note-requires c = let a = c.args in
    let g = c.offer-at.ensures in
    let k = g.next in
    (k.fits, k.capped, (k.c, k.listed.linked), sought_marked a.source.now.letters.now a.source.now.far.now a.source.now.terms (weighted (range a.a a.e a.missed a.semi) a.times) a.run a.out.now a.marks.now _ a.marks.now c.offer-at.result c.requires.0 g, c.last_below-k.ensures.within)

pub returns : goal.returns
returns c = let a = c.args in
    sought_noted a.source.now.letters.now a.source.now.far.now a.source.now.terms (weighted (range a.a a.e a.missed a.semi) a.times) a.run a.out.now a.marks.now _ _ c.offer-at.result a.run.samples a.run.limit c.note.result c.offer-at.ensures c.note.ensures
