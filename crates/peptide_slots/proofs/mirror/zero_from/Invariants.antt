-- `zero_from` meets its contract. The invariant: what was seen and what is left give the whole. Assumes nothing.
use Rattle.std.proofs.Common.{◌≡◌, ◌&&◌, drop}
use Rattle.peptide_slots.specs.Mirror.{all_zero}
use Rattle.peptide_slots.proofs.mirror.zero_from.Given as goal

abbrev pub invariant-loop-x : goal.invariant-loop-x
invariant-loop-x l = l.all && all_zero (drop l.x-index l.x-items) ≡ all_zero l.x-items
