-- `least_repeat` meets its contract. Assumes nothing.
use Prim.Native.Nat.{◌<◌}
use mathlib.Core.Path.{◌≡◌}
use lib.ListN.{drop}
use lib.Seq.{slice}
use Rattle.sorting_texts.specs.Text.{le_by}
use Rattle.sorting_repeats.specs.LeastLaws.{least, least_from}
use Rattle.sorting_repeats.proofs.repeats.least_repeat.Given as goal

abbrev pub invariant-loop-i : goal.invariant-loop-i
invariant-loop-i l =
    let le = le_by l.by l.letters (drop l.e l.w) in
    (0 < l.hi) × (least le l.none (slice 0 l.hi l.w) ≡ least_from le l.b l.p (slice l.i l.hi l.w))
