-- `write_members` meets its contract: what is still to be written gives the whole. Assumes nothing.
use native.Mathlib.Omega.{arith}
use mathlib.Core.Path.{◌∙◌}
use Rattle.protein_groups_spec.specs.Rows.{standing_member, standing_members}
use Rattle.protein_groups_members.specs.Members.{member_bytes}
use Rattle.protein_groups_members.specs.MemberLaws.{sized_members}
use Rattle.protein_groups_copy.specs.WritingLaws.{writing_none, writing_more, writing_end}
use Rattle.protein_groups_copy.proofs.writing.write_members.Goals as goal

pub loop-j-init : goal.loop-j-init
loop-j-init c = let a = c.args in writing_none 12 131072 member_bytes (standing_member a.w.now a.o a.s) a.n a.out.now

pub put_member-requires : goal.put_member-requires
put_member-requires c = (omega arith, c.room_for-room.ensures ∙ rw c.loop-j.invariant.same_length)

pub loop-j-preserved : goal.loop-j-preserved
loop-j-preserved c =
    let a = c.args in let l = c.loop-j in
    rw (c.put_member.ensures, c.shown_at-shown.ensures) (writing_more 12 131072 member_bytes (standing_member a.w.now a.o a.s) a.n a.out.now l.out l.j (omega arith) l.invariant)

pub returns : goal.returns
returns c =
    let a = c.args in let l = c.loop-j in
    writing_end 12 131072 member_bytes (standing_member a.w.now a.o a.s) a.n a.out.now l.out l.j (sized_members (standing_members a.w.now a.o a.s a.n)) (omega arith) l.invariant
