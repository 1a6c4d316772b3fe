-- `count_up` meets its contract. Assumes nothing.
use mathlib.Core.Path.{◌≡◌}
use lib.ListN.{take, drop}
use Rattle.lists.specs.Lists.{up_from}
use Rattle.sorting_repeats.proofs.repeats.count_up.Given as goal

abbrev pub invariant-loop-i : goal.invariant-loop-i
invariant-loop-i l = (take l.i l.w ≡ up_from 0 l.i) × (drop l.n l.w ≡ drop l.n l.initial.w)
