-- `put_member` meets its contract: three stores are one record, where there is room. Assumes nothing.
use Prim.Native.Nat.{◌*◌, ◌<◌}
use mathlib.Core.Path.{◌∙◌}
use Rattle.protein_groups_spec.specs.Rows.{member_of}
use Rattle.records.specs.Room.{room_of}
use Rattle.records.specs.StoreLaws.{stored_full, stored-free}
use Rattle.protein_groups_members.specs.Members.{member_bytes}
use Rattle.protein_groups_copy.specs.WritingLaws.{member-stored}
use Rattle.protein_groups_copy.proofs.writing.put_member.Goals as goal

pub returns-then-room-j : goal.returns-then-room-j
returns-then-room-j c =
    let a = c.args in
    stored_full 12 131072 a.out.now a.j (member_bytes (member_of a.group a.shown)) (rw c.requires.1 at c.if-room-j.true)

pub returns : goal.returns
returns c =
    let a = c.args in
    let r : a.j < room_of 12 131072 a.out.now = rw c.requires.1 at c.if-room-j.false in
    rw (c.put_u32-3.ensures, c.put_u32-2.ensures, c.put_u32.ensures) (member-stored a.out.now (12 * a.j) a.group a.shown) ∙ stored-free 12 131072 a.out.now a.j (member_bytes (member_of a.group a.shown)) r
