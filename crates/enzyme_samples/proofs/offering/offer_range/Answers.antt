-- `offer_range` meets its contract. Assumes nothing.
use mathlib.Core.Path.{sym, ◌∙◌}
use Rattle.enzyme_cuts.specs.Cutting.{range}
use Rattle.enzyme_samples.specs.Ready.{weighted}
use Rattle.enzyme_samples.specs.RangeLaws.{unfit-left}
use Rattle.enzyme_samples.proofs.offering.offer_range.Goals as goal

pub returns : goal.returns
returns c = let a = c.args in
    unfit-left a.source.now.letters.now a.source.now.far.now a.source.now.terms (weighted (range a.a a.e a.missed a.semi) a.times) a.run a.out.now a.marks.now (sym c.length_within.ensures ∙ c.if-length_within.false) c.requires
