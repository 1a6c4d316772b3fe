-- `offer_more` meets its contract. Assumes nothing.
use Prim.Native.Nat.{◌+◌, ◌-◌}
use mathlib.Core.Path.{◌≡◌}
use native.Mathlib.Omega.{arith}
use Rattle.enzyme_windows.specs.Pieces.{pieces}
use Rattle.enzyme_parts.specs.Walk.{sites_in}
use Rattle.enzyme_parts.specs.WalkLaws.{weigh_sizes_end}
use Rattle.enzyme_parts.specs.GoingLaws.{underway_start, underway_end}
use Rattle.enzyme_semi.specs.WeightLaws.{weight_of}
use Rattle.enzyme_sizes.specs.ToldLaws.{long_same, told_serves}
use Rattle.enzyme_sizes.specs.StepLaws.{step_ready, step_on}
use Rattle.enzyme_sizes.proofs.sizes.offer_more.Goals as goal

pub loop-k-init : goal.loop-k-init
loop-k-init c =
    let p = c.requires in
    let e : c.args.missed + 1 - 1 ≡ c.args.missed = omega arith in
    (p.2, p.3, rw e (underway_start p.4))

pub raise-g-requires : goal.raise-g-requires
raise-g-requires c = let l = c.loop-k in (l.invariant.1, omega (arith, c.requires.1), l.invariant.0)

pub offer_owns-at-requires : goal.offer_owns-at-requires
offer_owns-at-requires c =
    let a = c.args in
    let l = c.loop-k in
    let t = c.raise-g.ensures in
    (c.requires.0, told_serves (pieces a.knife a.source.now.letters.now) _ _ _ _ _ _ _ _ _ _ a.looked t (long_same l.invariant.0 (omega arith) (omega arith) (omega arith) (omega arith)), step_ready l.k (a.missed + 1 - l.k) t (omega arith) l.invariant.2)

pub loop-k-preserved : goal.loop-k-preserved
loop-k-preserved c =
    let a = c.args in
    let l = c.loop-k in
    let t = c.raise-g.ensures in (
      long_same l.invariant.0 (omega (arith, c.order-1)) (omega arith) (omega arith) (omega arith),
      t,
      step_on l.k (a.missed + 1 - l.k) t (omega arith) l.invariant.2 (a.missed + 1 - (l.k + 1)) (omega arith) c.offer_owns-at.ensures (omega arith) (omega arith),
    )

pub returns : goal.returns
returns c =
    let a = c.args in
    let l = c.loop-k in
    underway_end (weigh_sizes_end (sites_in a.starts.now a.m) l.k (a.missed + 1 - l.k) (weight_of a.looked (pieces a.knife a.source.now.letters.now)) (omega arith)) l.invariant.2

pub returns-2 : goal.returns-2
returns-2 c =
    let a = c.args in
    let l = c.loop-k in
    let t = c.raise-g.ensures in
    underway_end (weigh_sizes_end (sites_in a.starts.now a.m) (l.k + 1) (a.missed + 1 - (l.k + 1)) (weight_of a.looked (pieces a.knife a.source.now.letters.now)) (omega arith))
    (step_on l.k (a.missed + 1 - l.k) t (omega arith) l.invariant.2 (a.missed + 1 - (l.k + 1)) (omega arith) c.offer_owns-at.ensures (omega arith) (omega arith))
