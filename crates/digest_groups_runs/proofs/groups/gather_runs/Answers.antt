-- `gather_runs` meets its contract: what is still to come gives all. Assumes nothing.
use native.Mathlib.Omega.{arith}
use Rattle.digest_groups_runs.specs.TurnLaws.{ahead-start, ahead_more, hi_above, ahead-all}
use Rattle.digest_groups_runs.proofs.groups.gather_runs.Goals as goal

pub overflow_add-g : goal.overflow_add-g
overflow_add-g c = let h = c.loop-lo.invariant in omega (arith, h.few, h.ready.few)

pub loop-lo-smaller : goal.loop-lo-smaller
loop-lo-smaller c = omega (arith, hi_above c.loop-lo.invariant (omega arith) c.gather_run-lo.ensures)

pub loop-lo-init : goal.loop-lo-init
loop-lo-init c = ahead-start c.requires

pub gather_run-lo-requires : goal.gather_run-lo-requires
gather_run-lo-requires c = (omega arith, c.loop-lo.invariant.ready)

pub loop-lo-preserved : goal.loop-lo-preserved
loop-lo-preserved c = ahead_more c.loop-lo.invariant (omega arith) c.gather_run-lo.ensures

pub returns : goal.returns
returns c = ahead-all c.loop-lo.invariant (omega arith)
