-- `least_repeat` meets its contract. Assumes nothing.
use mathlib.Core.Path.{◌∙◌}
use lib.ListN.{drop}
use Rattle.sorting_texts.specs.Text.{le_by}
use Rattle.sorting_spec.specs.PartLaws.{rest_all}
use Rattle.sorting_repeats.specs.LeastLaws.{least-turn}
use native.Mathlib.Omega.{arith}
use Rattle.sorting_repeats.proofs.repeats.least_repeat.Goals as goal

pub loop-i-preserved : goal.loop-i-preserved
loop-i-preserved c =
    let a = c.args in
    let l = c.loop-i in (
      omega arith,
      rw (rw (rest_all a.e a.w.now) at c.lesser_of-b.ensures) (l.invariant.1 ∙ least-turn (le_by a.by a.letters.now (drop a.e a.w.now)) a.w.now l.i a.hi l.b l.p (omega arith) (omega arith)),
    )
