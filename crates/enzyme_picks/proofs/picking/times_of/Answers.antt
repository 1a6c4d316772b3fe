-- `times_of` meets its contract: a window that is too short, too long or not new has no weight. Assumes nothing.
use mathlib.Core.Path.{◌≡◌, refl, ◌∙◌}
use mathlib.Core.Bool.{Bool, true, false, cond, ◌&&◌}
use Prim.Native.Nat.{ℕ}
use native.Mathlib.Omega.{arith}
use lib.Dec.{ltb}
use borrow.Author.Tests.{ltb-true, ltb-false}
use Rattle.lists.specs.Tests.{both}
use Rattle.enzyme_weights.specs.Weights.{weight_at}
use Rattle.enzyme_weights.specs.SizeLaws.{weight-shared, weight_class}
use Rattle.enzyme_picks.proofs.picking.times_of.Goals as goal

pub returns-then-fits-shared : goal.returns-then-fits-shared
returns-then-fits-shared c = let a = c.args in
    let x = c.from-shared in
    let t = both a.fits (ltb x.result a.n) c.if-fits-shared.true in
    rw t.0 (c.new_weight.ensures ∙ weight_class a.level.now.order.now a.level.now.runs.now a.level.now.rank.now a.level.now.share.now a.level.now.g a.n a.i (omega (arith, x.ensures, ltb-true x.result a.n t.1)))

-- where it fits, it is not new
untold : (fits : Bool) (x n w : ℕ) → (fits && ltb x n) ≡ false → (ltb x n ≡ false → 0 ≡ w) → 0 ≡ cond fits w 0
untold false x n w h f = refl
untold true x n w h f = f h

pub returns : goal.returns
returns c = let a = c.args in
    let x = c.from-shared in
    untold a.fits x.result a.n (weight_at a.level.now a.n a.i) c.if-fits-shared.false (λ h. weight-shared a.level.now.order.now a.level.now.runs.now a.level.now.rank.now a.level.now.share.now a.level.now.g a.n a.i (omega (arith, x.ensures, ltb-false x.result a.n h)))
