-- `refilled` meets its contract. The invariant: the places from i up to j follow one another. Assumes nothing.
use Rattle.std.proofs.Common.{◌≡◌, ◌++◌, suc, ◌-◌, take, drop, get_or}
use Rattle.lists.specs.Lists.{up_from}
use Rattle.peptide_choices.proofs.choice.refilled.Given as goal

abbrev pub invariant-loop-j : goal.invariant-loop-j
invariant-loop-j l =
    l.out ≡ take l.i l.initial.out ++ (up_from (suc (get_or l.initial.out l.i 0)) (l.j - l.i) ++ drop l.j l.initial.out)
