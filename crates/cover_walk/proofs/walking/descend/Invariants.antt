-- `descend` meets its contract. Assumes nothing.
use mathlib.Core.Path.{◌≡◌}
use lib.ListN.{length}
use Rattle.cover_tables.specs.StepLaws.{Levels}
use Rattle.cover_edges.specs.Records.{edges_in}
use Rattle.cover_walk.proofs.walking.descend.Given as goal

abbrev pub invariant-loop-below : goal.invariant-loop-below
invariant-loop-below l = (length l.w ≡ length l.initial.w) × Levels l.areas (edges_in l.edges) l.below 0 l.w
