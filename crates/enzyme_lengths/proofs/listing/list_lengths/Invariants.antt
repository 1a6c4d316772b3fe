-- `list_lengths` meets its contract: the lengths ahead, chosen, give the whole. Assumes nothing.
use mathlib.Core.Path.{◌≡◌}
use Prim.Native.Nat.{suc, ◌-◌}
use lib.ListN.{length}
use Rattle.enzyme_cuts.specs.Cutting.{of_lengths, none_sites}
use Rattle.enzyme_lengths.specs.Listing.{chosen_of}
use Rattle.enzyme_lengths.specs.Reading.{ToldBy}
use Rattle.enzyme_lengths.proofs.listing.list_lengths.Given as goal

abbrev pub invariant-loop-len : goal.invariant-loop-len
invariant-loop-len l = ToldBy l.tables l.len l.head
    × (chosen_of l.tables.letters.now l.terms.protein (of_lengths (length l.tables.letters.now) l.len (suc l.terms.maximum - l.len)) l.k l.out ≡ chosen_of l.tables.letters.now l.terms.protein (none_sites (length l.tables.letters.now) l.terms.minimum l.terms.maximum) 0 l.initial.out)
