-- `list_placed` meets its contract: the ranges ahead, chosen, give the whole. Assumes nothing.
use mathlib.Core.Path.{◌≡◌}
use Prim.Native.Nat.{◌-◌}
use Rattle.enzyme_cuts.specs.Cutting.{starting}
use Rattle.enzyme_lengths.specs.Listing.{chosen_of}
use Rattle.enzyme_lengths.specs.Reading.{ToldBy}
use Rattle.enzyme_lengths.proofs.listing.list_placed.Given as goal

abbrev pub invariant-loop-a : goal.invariant-loop-a
invariant-loop-a l = ToldBy l.tables l.len l.head
    × (chosen_of l.tables.letters.now l.protein (starting l.len l.a (l.to - l.a)) l.k l.out ≡ chosen_of l.tables.letters.now l.protein (starting l.len l.from (l.to - l.from)) l.count l.initial.out)
