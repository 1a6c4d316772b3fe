-- `tag_length` meets its contract. Assumes nothing.
use Prim.Native.Nat.{◌≤◌}
use lib.ListN.{length}
use Rattle.sorting_texts.specs.Text.{tag_in}
use Rattle.sorting_texts.proofs.naming.tag_length.Given as goal

abbrev pub invariant-loop-i : goal.invariant-loop-i
invariant-loop-i l = l.i ≤ length (tag_in l.keys)
