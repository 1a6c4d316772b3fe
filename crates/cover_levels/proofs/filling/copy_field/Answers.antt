-- `copy_field` meets its contract. Assumes nothing.
use mathlib.Core.Path.{◌≡◌}
use native.Mathlib.Omega.{arith}
use Rattle.cover_edges.specs.PutLaws.{puts_none, puts_step}
use Rattle.cover_levels.proofs.filling.copy_field.Goals as goal

pub loop-i-preserved : goal.loop-i-preserved
loop-i-preserved c = let lp = c.loop-i in puts_step lp.i lp.invariant (omega arith) c.u32_at.ensures

pub returns : goal.returns
returns c = let e : c.loop-i.i ≡ c.args.edges.now.count = omega arith in rw e at c.loop-i.invariant

pub loop-i-init : goal.loop-i-init
loop-i-init c = puts_none
