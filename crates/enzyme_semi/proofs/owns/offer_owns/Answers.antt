-- `offer_owns` meets its contract. Assumes nothing.
use Prim.Native.Nat.{suc, ◌+◌}
use mathlib.Core.Path.{◌≡◌}
use native.Mathlib.Omega.{arith}
use Rattle.enzyme_weights.specs.Weights.{weight_in}
use Rattle.enzyme_parts.specs.WalkLaws.{weigh_on, weigh_end, weigh_start}
use Rattle.enzyme_parts.specs.GoingLaws.{underway_start, underway_end, underway_first, underway_on}
use Rattle.enzyme_semi.proofs.owns.offer_owns.Goals.{After-weight_of-times}
use Rattle.enzyme_semi.proofs.owns.offer_owns.Goals as goal

pub loop-i-init : goal.loop-i-init
loop-i-init c =
    let a = c.args in
    let e : 0 + a.missed ≡ a.missed = omega arith in
    rw (e, ← weigh_start a.starts.now (weight_in a.order.now a.runs.now a.rank.now a.share.now a.g (suc a.missed)) a.missed a.m) (underway_start c.requires.2)

pub weight_of-times-requires : goal.weight_of-times-requires
weight_of-times-requires c = let l = c.loop-i in (c.requires.1, omega arith)

-- the weight that was read
read : (c : After-weight_of-times) → let a = c.args in c.weight_of-times.result ≡ weight_in a.order.now a.runs.now a.rank.now a.share.now a.g (suc a.missed) c.loop-i.i
read c = c.weight_of-times.ensures

pub offer_weighed-at-requires : goal.offer_weighed-at-requires
offer_weighed-at-requires c =
    let a = c.args in
    let l = c.loop-i in
    (omega arith, omega (arith, c.requires.0), rw (read (goal.at.offer_weighed-at-requires c).After-weight_of-times) (underway_first (weigh_on a.starts.now (weight_in a.order.now a.runs.now a.rank.now a.share.now a.g (suc a.missed)) a.missed l.i (l.i + a.missed) a.m (omega arith)) l.invariant))

pub loop-i-preserved : goal.loop-i-preserved
loop-i-preserved c =
    let a = c.args in
    let l = c.loop-i in
    let e : l.i + 1 + a.missed ≡ l.i + a.missed + 1 = omega arith in
    rw e (underway_on (weigh_on a.starts.now (weight_in a.order.now a.runs.now a.rank.now a.share.now a.g (suc a.missed)) a.missed l.i (l.i + a.missed) a.m (omega arith)) l.invariant (rw (read (goal.at.loop-i-preserved c).After-weight_of-times) at c.offer_weighed-at.ensures) (omega arith) (omega arith))

pub returns : goal.returns
returns c =
    let a = c.args in
    let l = c.loop-i in
    underway_end (weigh_end a.starts.now (weight_in a.order.now a.runs.now a.rank.now a.share.now a.g (suc a.missed)) a.missed l.i (l.i + a.missed) a.m (omega arith)) l.invariant
