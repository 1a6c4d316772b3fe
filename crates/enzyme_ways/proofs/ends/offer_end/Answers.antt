-- `offer_end` meets its contract: no record stands before it. Assumes nothing.
use mathlib.Core.Path.{◌∙◌}
use Rattle.enzyme_ways.specs.WayLaws.{end_offers}
use Rattle.enzyme_ways.proofs.ends.offer_end.Goals as goal

pub returns : goal.returns
returns c = let a = c.args in
    rw c.length_within-wanted.ensures at c.write_range.ensures ∙ end_offers a.letters.now a.terms a.out.now
