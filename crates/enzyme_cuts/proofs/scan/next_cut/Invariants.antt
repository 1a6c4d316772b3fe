-- `next_cut` meets its contract: the letters before i do not cut. Assumes nothing.
use mathlib.Core.Path.{◌≡◌}
use lib.ListN.{drop}
use Rattle.enzyme_cuts.specs.Scan.{find_cut}
use Rattle.enzyme_cuts.proofs.scan.next_cut.Given as goal

abbrev pub invariant-loop-i : goal.invariant-loop-i
invariant-loop-i l = find_cut l.knife l.i (drop l.i l.letters) ≡ find_cut l.knife l.at (drop l.at l.letters)
