-- `pick` meets its contract. Assumes nothing.
use mathlib.Core.Path.{◌≡◌, refl, ◌∙◌}
use lib.ListN.{length-set}
use native.Mathlib.Omega.{arith}
use Rattle.enzyme_sifted.specs.SiftLaws.{repeats-picked-none, repeats-picked-turn}
use Rattle.enzyme_sifted.proofs.picking.pick.Goals as goal

pub loop-z-init : goal.loop-z-init
loop-z-init c = let a = c.args in (refl, repeats-picked-none a.codes.now a.seen.now a.order.now)

pub bounds-order-k : goal.bounds-order-k
bounds-order-k c = let l = c.loop-z in omega (arith, l.invariant.1.few)

pub after-k-requires : goal.after-k-requires
after-k-requires c = let l = c.loop-z in omega (arith, l.invariant.1.few)

pub loop-z-preserved : goal.loop-z-preserved
loop-z-preserved c =
    let a = c.args in
    let l = c.loop-z in
    let turn = repeats-picked-turn a.codes.now a.seen.now l.order l.z l.k (omega arith) l.invariant.1 c.seen_twice-more.result c.seen_twice-more.ensures in
    (length-set l.order l.k l.z ∙ l.invariant.0, rw c.after-k.ensures turn)

pub returns : goal.returns
returns c = let e : c.loop-z.z ≡ c.args.m = omega arith in rw e at c.loop-z.invariant.1

pub shape_of-order : goal.shape_of-order
shape_of-order c = c.loop-z.invariant.0
