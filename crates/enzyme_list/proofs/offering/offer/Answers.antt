-- `offer` meets its contract: one law for each way out. Assumes nothing.
use native.Mathlib.Omega.{arith}
use Prim.Native.Nat.{◌-◌}
use mathlib.Core.Path.{◌≡◌, sym, ◌∙◌}
use mathlib.Core.Bool.{true}
use Rattle.enzyme_cuts.specs.Cutting.{range, within}
use Rattle.enzyme_list.specs.OfferLaws.{came_other, found_within, came_found}
use Rattle.enzyme_list.proofs.offering.offer.Goals.{Else-not-fits}
use Rattle.enzyme_list.proofs.offering.offer.Goals as goal

pub returns-then-not-fits : goal.returns-then-not-fits
returns-then-not-fits c = let a = c.args in
    came_other a.letters.now a.terms (range a.a a.e a.missed a.semi) a.times a.count a.head a.full a.out.now c.requires.0 c.requires.5 c.requires.3 (sym c.length_within-fits.ensures ∙ c.if-not-fits.true)

-- the length fits
fits : (c : Else-not-fits) → within c.args.terms.minimum c.args.terms.maximum (c.args.e - c.args.a) ≡ true
fits c = sym c.length_within-fits.ensures ∙ c.if-not-fits.false

pub add_times-requires : goal.add_times-requires
add_times-requires c = let a = c.args in
    let k = c.requires.0.capped in
    let w = found_within a.letters.now a.terms (range a.a a.e a.missed a.semi) a.times a.count a.head a.full a.out.now c.requires.0 c.requires.5 c.requires.3 c.in-Same.t (rw c.in-Same.is at c.search-place.ensures) in
    (w.0, omega (arith, w.1, k))

pub link-requires : goal.link-requires
link-requires c = let p = c.requires in
    (p.0, p.1, p.2, p.3, p.5, fits (goal.at.link-requires c).Else-not-fits, rw c.in-Behind.is at c.search-place.ensures)

pub returns-in-Same : goal.returns-in-Same
returns-in-Same c = let a = c.args in
    rw c.add_times.ensures (came_found a.letters.now a.terms (range a.a a.e a.missed a.semi) a.times a.count a.head a.full a.out.now c.requires.0 c.requires.5 c.requires.3 c.in-Same.t (rw c.in-Same.is at c.search-place.ensures) (fits (goal.at.returns-in-Same c).Else-not-fits))
