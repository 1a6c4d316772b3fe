-- `list_length` meets its contract: the great blocks ahead, chosen, give the whole. Assumes nothing.
use mathlib.Core.Path.{◌≡◌}
use Prim.Native.Nat.{◌-◌, ◌*◌}
use lib.ListN.{length}
use Rattle.enzyme_cuts.specs.Cutting.{starting, of_length}
use Rattle.enzyme_lengths.specs.Listing.{chosen_of}
use Rattle.enzyme_lengths.specs.Reading.{ToldBy}
use Rattle.enzyme_lengths.proofs.listing.list_length.Given as goal

abbrev pub invariant-loop-b : goal.invariant-loop-b
invariant-loop-b l = ToldBy l.tables l.len l.head
    × (chosen_of l.tables.letters.now l.protein (starting l.len (4096 * l.b) (l.starts - 4096 * l.b)) l.k l.out ≡ chosen_of l.tables.letters.now l.protein (of_length (length l.tables.letters.now) l.len) l.count l.initial.out)
