-- `list_blocks` meets its contract: the blocks ahead, chosen, give the whole. Assumes nothing.
use mathlib.Core.Path.{◌≡◌}
use Prim.Native.Nat.{◌-◌, ◌*◌}
use Rattle.enzyme_cuts.specs.Cutting.{starting}
use Rattle.enzyme_lengths.specs.Listing.{chosen_of}
use Rattle.enzyme_lengths.specs.Reading.{ToldBy}
use Rattle.enzyme_lengths.proofs.listing.list_blocks.Given as goal

abbrev pub invariant-loop-b : goal.invariant-loop-b
invariant-loop-b l = ToldBy l.tables l.len l.head
    × (chosen_of l.tables.letters.now l.protein (starting l.len (64 * l.b) (l.to - 64 * l.b)) l.k l.out ≡ chosen_of l.tables.letters.now l.protein (starting l.len l.from (l.to - l.from)) l.count l.initial.out)
