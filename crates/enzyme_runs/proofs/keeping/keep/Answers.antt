-- `keep` meets its contract. Assumes nothing.
use mathlib.Core.Path.{◌≡◌}
use mathlib.Core.Logic.{inr}
use lib.ListN.{get_or}
use Prim.Native.Nat.{◌<◌}
use native.Mathlib.Omega.{arith}
use Rattle.enzyme_rows.specs.Steps.{goes_on}
use Rattle.enzyme_rows.specs.TurnLaws.{kept-none, kept-turn}
use Rattle.enzyme_runs.proofs.keeping.keep.Goals as goal

pub loop-i-init : goal.loop-i-init
loop-i-init c = let a = c.args in (kept-none (goes_on a.order.now a.runs.now a.g a.m a.n) a.order.now)

pub bounds-order-i : goal.bounds-order-i
bounds-order-i c = omega (arith, c.loop-i.invariant.long)

pub bounds-order-k : goal.bounds-order-k
bounds-order-k c = let l = c.loop-i in omega (arith, l.invariant.long, l.invariant.few)

pub after-k-requires : goal.after-k-requires
after-k-requires c = let l = c.loop-i in omega (arith, l.invariant.few)

pub loop-i-preserved : goal.loop-i-preserved
loop-i-preserved c = let a = c.args in
    let l = c.loop-i in
    let h : l.i < a.g = omega arith in
    let e : get_or l.order l.i 0 ≡ get_or a.order.now l.i 0 = l.invariant.rest l.i (inr (omega arith)) in
    (rw c.after-k.ensures (kept-turn (goes_on a.order.now a.runs.now a.g a.m a.n) a.order.now l.order a.g l.i l.k (get_or l.order l.i 0) c.goes_on-more.result c.requires.3 h c.requires.0 l.invariant e (rw e at c.goes_on-more.ensures)))

pub returns : goal.returns
returns c = let e : c.loop-i.i ≡ c.args.g = omega arith in rw e at c.loop-i.invariant

pub offset_bounds-order-k : goal.offset_bounds-order-k
offset_bounds-order-k c = omega arith

pub shape_of-order : goal.shape_of-order
shape_of-order c = c.loop-i.invariant.long
