-- `write_edges` meets its contract: what is still to be written gives the whole. Assumes nothing.
use Rattle.protein_groups_spec.specs.Rows.{standing_edge}
use Rattle.cover_edges.specs.Edges.{edge_bytes}
use Rattle.protein_groups_copy.specs.WritingLaws.{WrittenTo}
use Rattle.protein_groups_copy.proofs.writing.write_edges.Given as goal

abbrev pub invariant-loop-i : goal.invariant-loop-i
invariant-loop-i l = WrittenTo 8 1048576 edge_bytes (standing_edge l.w l.a l.b) l.n l.initial.out l.out l.i
