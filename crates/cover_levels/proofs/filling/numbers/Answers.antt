-- `numbers` meets its contract. Assumes nothing.
use mathlib.Core.Path.{◌≡◌, refl}
use native.Mathlib.Omega.{arith}
use Rattle.cover_edges.specs.PutLaws.{puts_none, puts_step}
use Rattle.cover_levels.proofs.filling.numbers.Goals as goal

pub returns : goal.returns
returns c = let e : c.loop-i.i ≡ c.args.n = omega arith in rw e at c.loop-i.invariant

pub loop-i-init : goal.loop-i-init
loop-i-init c = puts_none

pub loop-i-preserved : goal.loop-i-preserved
loop-i-preserved c = let lp = c.loop-i in puts_step lp.i lp.invariant (omega arith) refl
