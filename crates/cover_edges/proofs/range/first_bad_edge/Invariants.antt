-- `first_bad_edge` meets its contract. Assumes nothing.
use Rattle.records.specs.SeekingLaws.{Seeking}
use Rattle.cover_edges.specs.Edges.{edge_at, bad_edge, edge_count, first_bad_edge}
use Rattle.cover_edges.proofs.range.first_bad_edge.Given as goal

abbrev pub invariant-loop-i : goal.invariant-loop-i
invariant-loop-i l = Seeking (λ k. bad_edge l.groups l.metas (edge_at l.edges k)) (edge_count l.edges) l.i (first_bad_edge l.edges l.groups l.metas)
