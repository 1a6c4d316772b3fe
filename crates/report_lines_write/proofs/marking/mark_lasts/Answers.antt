-- `mark_lasts` meets its contract: after g turns the stretches of g groups are marked. Assumes nothing.
use native.Mathlib.Omega.{arith}
use Rattle.report_lines_write.specs.MarkLaws.{lasts_none, mark-fits, mark-small, mark-turn}
use Rattle.report_lines_write.proofs.marking.mark_lasts.Goals as goal

pub overflow_mul-b : goal.overflow_mul-b
overflow_mul-b c = let p = c.requires in omega (arith, p.within, p.long)

pub overflow_add-b : goal.overflow_add-b
overflow_add-b c = let p = c.requires in omega (arith, p.within, p.long)

pub loop-g-init : goal.loop-g-init
loop-g-init c = lasts_none c.requires

pub mark_one-count-requires : goal.mark_one-count-requires
mark_one-count-requires c =
    let p = c.requires in
    let q = c.loop-g.invariant in
    let f = mark-fits p c.loop-g-test.true q in
    (f.0, f.1, f.2, mark-small p c.loop-g-test.true q (λ i. omega (arith, c.slice_known-1.given i)))

pub loop-g-preserved : goal.loop-g-preserved
loop-g-preserved c = rw (c.mark_one-count.ensures.0, c.mark_one-count.ensures.1) (mark-turn c.requires c.loop-g-test.true c.loop-g.invariant)
