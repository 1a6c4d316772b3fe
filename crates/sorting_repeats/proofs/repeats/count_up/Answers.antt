-- `count_up` meets its contract. Assumes nothing.
use mathlib.Core.Path.{◌∙◌}
use native.Mathlib.Omega.{arith}
use lib.Seq.{drop-set-lt}
use Rattle.lists.specs.RowLaws.{counting}
use Rattle.sorting_repeats.proofs.repeats.count_up.Goals as goal

pub loop-i-preserved : goal.loop-i-preserved
loop-i-preserved c =
    let l = c.loop-i in
    let a = c.args in (
      counting l.w l.i (omega arith) l.invariant.0,
      drop-set-lt a.n l.w l.i l.i (omega arith) ∙ l.invariant.1,
    )
