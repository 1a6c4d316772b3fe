-- `join_edges` meets its contract. Assumes nothing.
use mathlib.Core.Path.{◌≡◌}
use lib.ListN.{length}
use Rattle.cover_joining.specs.Joining.{Joined, nodes, edge_links}
use Rattle.cover_joining.proofs.joining.join_edges.Given as goal

abbrev pub invariant-loop-i : goal.invariant-loop-i
invariant-loop-i l = (length l.w ≡ length l.initial.w) × Joined (edge_links l.groups l.edges.bytes.now l.i) l.initial.w l.w l.p (nodes l.groups l.metas)
