-- `offer_endings` meets its contract. Assumes nothing.
use Prim.Native.Nat.{◌+◌}
use mathlib.Core.Path.{ap}
use native.Mathlib.Omega.{arith}
use native.Mathlib.Numerals.{add-one}
use Rattle.enzyme_samples.specs.Ready.{loaded}
use Rattle.enzyme_parts.specs.GoingLaws.{underway_start, underway_end, range-first, range-on}
use Rattle.enzyme_parts.specs.PassLaws.{endings-pass}
use Rattle.enzyme_parts.specs.WalkLaws.{endings-on, endings_end}
use Rattle.enzyme_parts.proofs.parts.offer_endings.Goals as goal

pub loop-c-init : goal.loop-c-init
loop-c-init c =
    let a = c.args in
    let q = c.first_cut-first.ensures in
    endings-pass a.times a.missed a.e a.z (a.a + 1) _ q.0 q.1 (rw (add-one a.a) (underway_start c.requires.1))

pub offer_range-at-requires : goal.offer_range-at-requires
offer_range-at-requires c = let a = c.args in let l = c.loop-c in range-first (ap (loaded a.times) (endings-on a.missed a.e l.c a.z (omega arith))) l.invariant

pub loop-c-preserved : goal.loop-c-preserved
loop-c-preserved c =
    let a = c.args in
    let l = c.loop-c in
    range-on (ap (loaded a.times) (endings-on a.missed a.e l.c a.z (omega arith))) l.invariant c.offer_range-at.ensures (omega arith) (omega arith)

pub returns : goal.returns
returns c =
    let a = c.args in
    let l = c.loop-c in
    underway_end (ap (loaded a.times) (endings_end a.missed a.e l.c a.z (omega arith))) l.invariant
