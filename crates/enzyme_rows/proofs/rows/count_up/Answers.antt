-- `count_up` meets its contract. Assumes nothing.
use Prim.Native.Nat.{ℕ}
use mathlib.Core.Path.{◌≡◌, refl, ◌∙◌}
use native.Mathlib.Omega.{arith}
use lib.ListN.{length-set}
use Rattle.lists.specs.FrameLaws.{set_more}
use Rattle.enzyme_rows.proofs.rows.count_up.Goals as goal

pub loop-i-init : goal.loop-i-init
loop-i-init c = (refl, refl, λ p h. absurd (omega arith))

pub loop-i-preserved : goal.loop-i-preserved
loop-i-preserved c = let l = c.loop-i in
    (length-set l.order l.i l.i ∙ l.invariant.0, length-set l.share l.i 0 ∙ l.invariant.1, λ p h. (set_more (λ (q : ℕ). q) l.order l.i l.i (omega arith) refl (λ q k. (l.invariant.2 q k).0) p h, set_more (λ (q : ℕ). 0) l.share l.i 0 (omega arith) refl (λ q k. (l.invariant.2 q k).1) p h))

pub returns : goal.returns
returns c = let e : c.loop-i.i ≡ c.args.m = omega arith in rw e at c.loop-i.invariant.2

pub shape_of-order : goal.shape_of-order
shape_of-order c = c.loop-i.invariant.0

pub shape_of-share : goal.shape_of-share
shape_of-share c = c.loop-i.invariant.1
