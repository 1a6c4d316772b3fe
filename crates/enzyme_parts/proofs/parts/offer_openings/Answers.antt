-- `offer_openings` meets its contract. Assumes nothing.
use mathlib.Core.Path.{refl, ap}
use native.Mathlib.Omega.{arith}
use native.Mathlib.Numerals.{add-one}
use Rattle.enzyme_samples.specs.Ready.{loaded}
use Rattle.enzyme_parts.specs.GoingLaws.{underway_start, underway_end, range-first, range-on}
use Rattle.enzyme_parts.specs.PassLaws.{openings-pass}
use Rattle.enzyme_parts.specs.WalkLaws.{openings-on}
use Rattle.enzyme_parts.proofs.parts.offer_openings.Goals as goal

pub loop-c-init : goal.loop-c-init
loop-c-init c = rw (add-one c.args.b) (underway_start c.requires.2)

pub offer_range-at-requires : goal.offer_range-at-requires
offer_range-at-requires c = let a = c.args in let l = c.loop-c in range-first (ap (loaded a.times) (openings-on a.missed a.a l.c a.e (omega (arith, c.last_cut-stop.ensures.0)))) l.invariant

pub loop-c-preserved : goal.loop-c-preserved
loop-c-preserved c =
    let a = c.args in
    let l = c.loop-c in
    range-on (ap (loaded a.times) (openings-on a.missed a.a l.c a.e (omega (arith, c.last_cut-stop.ensures.0)))) l.invariant c.offer_range-at.ensures (omega arith) (omega arith)

pub returns : goal.returns
returns c =
    let a = c.args in
    let l = c.loop-c in
    let q = c.last_cut-stop.ensures in
    underway_end refl (openings-pass a.times a.missed a.a l.c a.e (λ x i j. q.1 x (omega arith) j) l.invariant)
