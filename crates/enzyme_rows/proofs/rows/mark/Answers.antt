-- `mark` meets its contract. Assumes nothing.
use mathlib.Core.Path.{◌≡◌, refl, sym}
use lib.ListN.{get_or}
use native.Mathlib.Omega.{arith}
use Rattle.enzyme_rows.specs.TurnLaws.{repeats-marked-none, repeats-marked-more}
use Rattle.enzyme_rows.proofs.rows.mark.Goals as goal

pub loop-i-init : goal.loop-i-init
loop-i-init c = let a = c.args in (repeats-marked-none a.order.now a.runs.now a.share.now a.n)

pub bounds-share-x : goal.bounds-share-x
bounds-share-x c = let l = c.loop-i in let b = c.requires.3 c.from-x.result (l.i, omega arith, sym c.from-x.ensures) in omega (arith, b, l.invariant.long)

pub bounds-share-x-in-loop-i : goal.bounds-share-x-in-loop-i
bounds-share-x-in-loop-i c = let l = c.loop-i in let b = c.requires.3 c.from-x.result (l.i, omega arith, sym c.from-x.ensures) in omega (arith, b, l.invariant.long)

pub loop-i-preserved : goal.loop-i-preserved
loop-i-preserved c = let a = c.args in
    let l = c.loop-i in
    let b = c.requires.3 (get_or a.order.now l.i 0) (l.i, omega arith, refl) in
    rw c.from-x.ensures (repeats-marked-more a.order.now a.runs.now a.share.now l.share a.n a.g l.i c.requires.2 (omega arith) b l.invariant c.shared.result (rw c.from-x.ensures at c.shared.ensures))

pub returns : goal.returns
returns c = let e : c.loop-i.i ≡ c.args.g = omega arith in rw e at c.loop-i.invariant

pub shape_of-share : goal.shape_of-share
shape_of-share c = c.loop-i.invariant.long
