-- `write_edges` meets its contract: what is still to be written gives the whole. Assumes nothing.
use native.Mathlib.Omega.{arith}
use mathlib.Core.Path.{◌∙◌}
use Rattle.protein_groups_spec.specs.Rows.{standing_edge, standing_edges}
use Rattle.cover_edges.specs.Edges.{edge_bytes}
use Rattle.cover_edges.specs.BackLaws.{sized_edges}
use Rattle.protein_groups_copy.specs.WritingLaws.{writing_none, writing_more, writing_end}
use Rattle.protein_groups_copy.proofs.writing.write_edges.Goals as goal

pub loop-i-init : goal.loop-i-init
loop-i-init c = let a = c.args in writing_none 8 1048576 edge_bytes (standing_edge a.w.now a.a a.b) a.n a.out.now

pub put_edge-requires : goal.put_edge-requires
put_edge-requires c = (omega arith, c.room_for-room.ensures ∙ rw c.loop-i.invariant.same_length)

pub loop-i-preserved : goal.loop-i-preserved
loop-i-preserved c =
    let a = c.args in let l = c.loop-i in
    rw c.put_edge.ensures (writing_more 8 1048576 edge_bytes (standing_edge a.w.now a.a a.b) a.n a.out.now l.out l.i (omega arith) l.invariant)

pub returns : goal.returns
returns c =
    let a = c.args in let l = c.loop-i in
    writing_end 8 1048576 edge_bytes (standing_edge a.w.now a.a a.b) a.n a.out.now l.out l.i (sized_edges (standing_edges a.w.now a.a a.b a.n)) (omega arith) l.invariant
