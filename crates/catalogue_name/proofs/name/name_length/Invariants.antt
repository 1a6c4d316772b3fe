-- `name_length` meets its contract. Assumes nothing.
use lib.ListN.{length}
use Rattle.catalogue_spec.specs.Names.{hidden, name_length}
use Rattle.records.specs.SeekingLaws.{Seeking}
use Rattle.catalogue_name.proofs.name.name_length.Given as goal

abbrev pub invariant-loop-i : goal.invariant-loop-i
invariant-loop-i l = Seeking (hidden l.name) (length l.name) l.i (name_length l.name)
