-- `sweep` meets its contract. Assumes nothing.
use mathlib.Core.Path.{◌≡◌}
use lib.ListN.{length}
use Rattle.cover_tables.specs.StepLaws.{Levels}
use Rattle.cover_edges.specs.Records.{edges_in}
use Rattle.cover_walk.proofs.walking.sweep.Given as goal

abbrev pub invariant-loop-i : goal.invariant-loop-i
invariant-loop-i l = (length l.w ≡ length l.initial.w) × Levels l.areas (edges_in l.edges) l.d l.i l.w
