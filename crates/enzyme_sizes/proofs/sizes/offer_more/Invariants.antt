-- `offer_more` meets its contract. Assumes nothing.
use Prim.Native.Nat.{◌+◌, ◌-◌}
use Rattle.enzyme_windows.specs.Pieces.{pieces}
use Rattle.enzyme_parts.specs.Walk.{sites_in}
use Rattle.enzyme_parts.specs.Weighed.{weigh_from}
use Rattle.enzyme_parts.specs.Going.{Underway}
use Rattle.enzyme_semi.specs.WeightLaws.{weight_of}
use Rattle.enzyme_sizes.specs.Told.{TablesLong, LevelTold}
use Rattle.enzyme_sizes.proofs.sizes.offer_more.Given as goal

abbrev pub invariant-loop-k : goal.invariant-loop-k
invariant-loop-k l =
    TablesLong l.looked l.order l.other l.rank l.share l.m × LevelTold l.looked (pieces l.knife l.source.letters.now) l.source.letters.now l.starts l.order l.other l.name l.rank l.share l.k l.g l.m
    × Underway l.source.letters.now l.source.far.now l.source.terms (weigh_from (weight_of l.looked (pieces l.knife l.source.letters.now)) 1 l.missed (sites_in l.starts l.m)) l.initial.at l.initial.out l.initial.marks (weigh_from (weight_of l.looked (pieces l.knife l.source.letters.now)) l.k (l.missed + 1 - l.k) (sites_in l.starts l.m)) l.at l.out l.marks
