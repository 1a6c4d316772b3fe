-- `walk` meets its contract: what the rest of the list comes to, the whole comes to. Assumes nothing.
use Rattle.enzyme_cuts.specs.Cutting.{site, part}
use Rattle.enzyme_keep.specs.Buffer.{ranges_in, links_in}
use Rattle.enzyme_list.specs.declared.walk.Place.{Place}
use Rattle.enzyme_list.specs.Chain.{FoundFrom, EndsWithin, depth}
use Rattle.enzyme_list.proofs.walk.walk.Given as goal

abbrev pub invariant-loop-t : goal.invariant-loop-t
invariant-loop-t l =
    EndsWithin (links_in l.count l.out) l.count l.t × ((r : Place) → FoundFrom l.letters (ranges_in l.count l.out) (links_in l.count l.out) (part l.letters (site l.a l.e)) l.last l.t r → FoundFrom l.letters (ranges_in l.count l.out) (links_in l.count l.out) (part l.letters (site l.a l.e)) l.prev l.cur r)

abbrev pub decreases-loop-t : goal.decreases-loop-t
decreases-loop-t l = depth (links_in l.count l.out) l.t l.count
