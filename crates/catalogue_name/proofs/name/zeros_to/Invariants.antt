-- `zeros_to` meets its contract. Assumes nothing.
use Rattle.std.specs.Prelude.{◌≤◌, length, max}
use Rattle.catalogue_spec.specs.Names.{non_zero, zeros_to}
use Rattle.records.specs.SeekingLaws.{Seeking}
use Rattle.catalogue_name.proofs.name.zeros_to.Given as goal

abbrev pub invariant-loop-i : goal.invariant-loop-i
invariant-loop-i l = (l.i ≤ max (length l.name) l.from) × Seeking (non_zero l.name) (length l.name) l.i (zeros_to l.name l.from)
