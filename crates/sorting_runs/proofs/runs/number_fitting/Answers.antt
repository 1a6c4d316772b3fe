-- `number_fitting` meets its contract. Assumes nothing.
use Prim.Native.Nat.{◌+◌, ◌-◌}
use mathlib.Core.Path.{◌≡◌, sym}
use Rattle.sorting_spec.specs.PartLaws.{rest_all}
use Rattle.sorting_runs.specs.NumberLaws.{numbering_turn}
use native.Mathlib.Omega.{arith}
use Rattle.sorting_runs.proofs.runs.number_fitting.Goals as goal

pub loop-i-preserved : goal.loop-i-preserved
loop-i-preserved c =
    let l = c.loop-i in
    let a = c.args in
    let here : a.to + (l.i - a.lo) + 1 ≡ a.to + (l.i + 1 - a.lo) = omega arith in
    rw (sym here) (numbering_turn (omega arith) (omega arith) l.invariant (omega arith) (rw (rest_all a.e l.w) at c.next_run-g.ensures))
