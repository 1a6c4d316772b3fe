-- `each_alone` meets its contract. Assumes nothing.
use native.Mathlib.Omega.{arith}
use mathlib.Core.Path.{◌≡◌, refl}
use Rattle.cover_edges.specs.PutLaws.{puts_none, puts_step}
use Rattle.cover_joining.proofs.joining.each_alone.Goals as goal

pub loop-x-preserved : goal.loop-x-preserved
loop-x-preserved c = let lp = c.loop-x in puts_step lp.x lp.invariant (omega (arith, lp.invariant.size, c.requires.0)) refl

pub returns : goal.returns
returns c = let e : c.loop-x.x ≡ c.args.n = omega arith in rw e at c.loop-x.invariant

pub loop-x-init : goal.loop-x-init
loop-x-init c = puts_none

pub shape_of-w : goal.shape_of-w
shape_of-w c = c.loop-x.invariant.size
