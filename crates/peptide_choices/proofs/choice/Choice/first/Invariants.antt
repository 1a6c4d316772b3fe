-- `first` meets its contract. The invariant: the first i places are 0, 1, .. . Assumes nothing.
use Rattle.std.proofs.Common.{◌≡◌, ◌++◌, drop}
use Rattle.lists.specs.Lists.{up_from}
use Rattle.peptide_choices.proofs.choice.Choice.first.Given as goal

abbrev pub invariant-loop-i : goal.invariant-loop-i
invariant-loop-i l = l.at ≡ up_from 0 l.i ++ drop l.i l.initial.at
