-- `search` meets its contract. Assumes nothing.
use Rattle.enzyme_cuts.specs.Cutting.{site, part}
use Rattle.enzyme_keep.specs.Buffer.{ranges_in, links_in}
use Rattle.enzyme_keep.specs.BufferLaws.{length_links}
use Rattle.enzyme_list.specs.ChainLaws.{begun_within, begun_reach, begun_sought}
use Rattle.enzyme_list.proofs.walk.search.Goals as goal

pub behind-first-requires : goal.behind-first-requires
behind-first-requires c = let a = c.args in
    let h = begun_within a.letters.now (ranges_in a.count a.out.now) (links_in a.count a.out.now) a.head a.from (part a.letters.now (site a.a a.e)) c.requires.4 in
    (c.requires.0, rw (length_links a.count a.out.now) at h)

pub walk-requires : goal.walk-requires
walk-requires c = let a = c.args in
    let p = c.requires in
    let h = begun_reach a.letters.now (ranges_in a.count a.out.now) (links_in a.count a.out.now) a.head a.from (part a.letters.now (site a.a a.e)) p.4 in
    (p.0, p.1, p.2, p.3, rw c.behind-first.ensures (rw (length_links a.count a.out.now) at h))

pub returns : goal.returns
returns c = let a = c.args in
    let t = rw c.behind-first.ensures at c.walk.ensures in
    begun_sought a.letters.now (ranges_in a.count a.out.now) (links_in a.count a.out.now) a.head a.from (part a.letters.now (site a.a a.e)) c.requires.4 c.walk.result t
