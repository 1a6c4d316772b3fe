-- `offer_halves` meets its contract. Assumes nothing.
use Prim.Native.Nat.{suc, ◌+◌, ◌-◌, ◌<◌}
use mathlib.Core.Path.{refl, ap}
use mathlib.Core.List.{◌∷◌}
use native.Mathlib.Omega.{arith}
use native.Mathlib.Numerals.{add-one}
use Rattle.enzyme_cuts.specs.Cutting.{range, halves}
use Rattle.enzyme_samples.specs.Ready.{loaded}
use Rattle.enzyme_parts.specs.Going.{Underway}
use Rattle.enzyme_parts.specs.GoingLaws.{underway_start, underway_end, range-first, range-on}
use Rattle.enzyme_parts.specs.PassLaws.{halves-pass}
use Rattle.enzyme_parts.specs.WalkLaws.{halves-on, halves_end}
use Rattle.enzyme_parts.proofs.parts.offer_halves.Goals.{After-slice_known-in-loop-c-2-1}
use Rattle.enzyme_parts.proofs.parts.offer_halves.Goals as goal

pub loop-c-init : goal.loop-c-init
loop-c-init c = rw (add-one c.args.a) (underway_start c.requires.1)

-- the first part of a cut was offered
mid : (c : After-slice_known-in-loop-c-2-1)
    → let a = c.args in
    let l = c.loop-c in
    let g = c.offer_range-x.new in
    let r = range a.a a.e 0 0 in
    Underway a.source.now.letters.now a.source.now.far.now a.source.now.terms (loaded a.times (halves r (suc a.a) (a.e - suc a.a))) a.run a.out.now a.marks.now
    (loaded a.times (range l.c a.e 0 1 ∷ halves r (l.c + 1) (a.e - (l.c + 1)))) c.offer_range-x.result g.out g.marks
mid c =
    let a = c.args in
    let l = c.loop-c in
    range-on (ap (loaded a.times) (halves-on (range a.a a.e 0 0) l.c (omega (arith, c.loop-c-test.true)))) l.invariant c.offer_range-x.ensures (omega arith) (omega arith)

pub offer_range-x-requires : goal.offer_range-x-requires
offer_range-x-requires c = let a = c.args in let l = c.loop-c in range-first (ap (loaded a.times) (halves-on (range a.a a.e 0 0) l.c (omega (arith, c.loop-c-test.true)))) l.invariant

pub offer_range-at-requires : goal.offer_range-at-requires
offer_range-at-requires c = range-first refl (mid (goal.at.offer_range-at-requires c).After-slice_known-in-loop-c-2-1)

-- the next cut is below the greatest length
below : (c : After-slice_known-in-loop-c-2-1) → c.loop-c.c < 65536
below c = let r = (mid c).ready in omega (arith, c.loop-c-test.true, r.inside.1, r.keeps.small)

pub next_cut-c-requires : goal.next_cut-c-requires
next_cut-c-requires c = (c.requires.0, omega (arith, below (goal.at.next_cut-c-requires c).After-slice_known-in-loop-c-2-1))

pub loop-c-preserved : goal.loop-c-preserved
loop-c-preserved c =
    let a = c.args in
    let q = c.next_cut-c.ensures in
    halves-pass a.times (range a.a a.e 0 0) (c.loop-c.c + 1) _ q.0 q.1 (range-on refl (mid (goal.at.loop-c-preserved c).After-slice_known-in-loop-c-2-1) c.offer_range-at.ensures (omega arith) (omega arith))

pub returns : goal.returns
returns c = let a = c.args in let l = c.loop-c in underway_end (ap (loaded a.times) (halves_end (range a.a a.e 0 0) l.c (omega arith))) l.invariant
