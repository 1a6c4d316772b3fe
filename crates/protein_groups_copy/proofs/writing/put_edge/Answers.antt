-- `put_edge` meets its contract: two stores are one record, where there is room. Assumes nothing.
use Prim.Native.Nat.{◌*◌, ◌<◌}
use mathlib.Core.Path.{◌∙◌}
use Rattle.records.specs.Room.{room_of}
use Rattle.records.specs.StoreLaws.{stored_full, stored-free}
use Rattle.cover_edges.specs.Edges.{edge_bytes}
use Rattle.protein_groups_copy.specs.WritingLaws.{edge-stored}
use Rattle.protein_groups_copy.proofs.writing.put_edge.Goals as goal

pub returns-then-room-i : goal.returns-then-room-i
returns-then-room-i c =
    let a = c.args in
    stored_full 8 1048576 a.out.now a.i (edge_bytes (a.group, a.meta)) (rw c.requires.1 at c.if-room-i.true)

pub returns : goal.returns
returns c =
    let a = c.args in
    let r : a.i < room_of 8 1048576 a.out.now = rw c.requires.1 at c.if-room-i.false in
    rw (c.put_u32-2.ensures, c.put_u32.ensures) (edge-stored a.out.now (8 * a.i) a.group a.meta) ∙ stored-free 8 1048576 a.out.now a.i (edge_bytes (a.group, a.meta)) r
