-- `offer_windows` meets its contract. Assumes nothing.
use Prim.Native.Nat.{◌+◌, ◌-◌}
use Rattle.enzyme_cuts.specs.Cutting.{windows}
use Rattle.enzyme_once.specs.SpotLaws.{spans}
use Rattle.enzyme_samples.specs.Ready.{loaded}
use Rattle.enzyme_parts.specs.Walk.{site_start, sites_in}
use Rattle.enzyme_parts.specs.Going.{Underway}
use Rattle.enzyme_semi.proofs.windows.offer_windows.Given as goal

abbrev pub invariant-loop-i : goal.invariant-loop-i
invariant-loop-i l = Underway l.source.letters.now l.source.far.now l.source.terms (loaded 1 (windows l.missed (sites_in l.starts l.m))) l.initial.at l.initial.out l.initial.marks (loaded 1 (spans (site_start l.starts) l.missed l.i (l.i + l.missed) (l.m - (l.i + l.missed)))) l.at l.out l.marks
