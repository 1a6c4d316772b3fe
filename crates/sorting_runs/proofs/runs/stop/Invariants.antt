-- `stop` meets its contract. Assumes nothing.
use Prim.Native.Nat.{◌<◌, ◌+◌}
use mathlib.Core.Path.{◌≡◌}
use lib.ListN.{drop}
use lib.Seq.{slice}
use Rattle.sorting_texts.specs.Text.{le_by}
use Rattle.sorting_spec.specs.Runs.{equals_after, run_length}
use Rattle.sorting_runs.proofs.runs.stop.Given as goal

abbrev pub invariant-loop-i : goal.invariant-loop-i
invariant-loop-i l =
    let le = le_by l.by l.letters (drop l.e l.w) in
    (l.lo < l.hi) × (l.lo + run_length le (slice l.lo l.hi l.w) ≡ l.i + equals_after le l.p (slice l.i l.hi l.w))
