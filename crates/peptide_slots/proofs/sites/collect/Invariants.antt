-- `collect` meets its contract. The invariant: the sites of the rules below r are written, those of the others are left.
-- Assumes nothing.
use Rattle.std.proofs.Common.{length, ◌/◌}
use Rattle.peptide_slots.specs.SiteLaws.{SitesWritten}
use Rattle.peptide_slots.proofs.sites.collect.Given as goal

abbrev pub invariant-loop-r : goal.invariant-loop-r
invariant-loop-r l = SitesWritten l.letters l.n l.position l.rules (length l.rules / 8) l.initial.out l.out l.at l.r
