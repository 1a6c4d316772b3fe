-- `number_fitting` meets its contract. Assumes nothing.
use Prim.Native.Nat.{◌+◌, ◌-◌}
use Rattle.sorting_texts.specs.Text.{le_by}
use Rattle.sorting_runs.specs.NumberLaws.{NumberingTo}
use Rattle.sorting_runs.proofs.runs.number_fitting.Given as goal

abbrev pub invariant-loop-i : goal.invariant-loop-i
invariant-loop-i l = NumberingTo (le_by l.by l.letters) l.initial.w l.w l.lo l.hi l.to l.e l.p l.g l.i (l.to + (l.i - l.lo))
