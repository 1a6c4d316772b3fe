-- `movable` meets its contract. The invariant: no place from i on can move. Assumes nothing.
use Rattle.std.proofs.Common.{ℕ, ◌+◌, ◌-◌, ◌≤◌, ◌<◌, get_or}
use Rattle.peptide_choices.proofs.choice.movable.Given as goal

abbrev pub invariant-loop-i : goal.invariant-loop-i
invariant-loop-i l = (j : ℕ) → l.i ≤ j → j < l.e → l.m ≤ get_or l.at j 0 + (l.n - j)
