-- `offer_all_windows` meets its contract. Assumes nothing.
use Prim.Native.Nat.{suc, ◌+◌, ◌-◌}
use Rattle.enzyme_cuts.specs.Cutting.{windows_from}
use Rattle.enzyme_samples.specs.Ready.{loaded}
use Rattle.enzyme_parts.specs.Walk.{sites_in}
use Rattle.enzyme_parts.specs.Going.{Underway}
use Rattle.enzyme_semi.proofs.windows.offer_all_windows.Given as goal

abbrev pub invariant-loop-k : goal.invariant-loop-k
invariant-loop-k l = Underway l.source.letters.now l.source.far.now l.source.terms (loaded 1 (windows_from 0 (suc l.missed) (sites_in l.starts l.m))) l.initial.at l.initial.out l.initial.marks (loaded 1 (windows_from l.k (l.missed + 1 - l.k) (sites_in l.starts l.m))) l.at l.out l.marks
