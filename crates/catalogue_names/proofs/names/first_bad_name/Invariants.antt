-- `first_bad_name` meets its contract. Assumes nothing.
use Rattle.records.specs.Search.{seek}
use Rattle.catalogue_spec.specs.Names.{name_count, bad_name}
use Rattle.records.specs.SeekingLaws.{Seeking}
use Rattle.catalogue_names.proofs.names.first_bad_name.Given as goal

abbrev pub invariant-loop-i : goal.invariant-loop-i
invariant-loop-i l = Seeking (bad_name l.names) (name_count l.names) l.i (seek (bad_name l.names) 0 (name_count l.names))
