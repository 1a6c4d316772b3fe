-- `first_bad_member` meets its contract. Assumes nothing.
use Rattle.records.specs.SeekingLaws.{Seeking}
use Rattle.protein_groups_members.specs.Members.{bad_member, first_bad_member}
use Prim.Native.Nat.{◌/◌}
use lib.ListN.{length}
use Rattle.protein_groups_members.proofs.members.first_bad_member.Given as goal

abbrev pub invariant-loop-i : goal.invariant-loop-i
invariant-loop-i l = Seeking (bad_member l.members l.groups l.proteins) (length l.members / 12) l.i (first_bad_member l.members l.groups l.proteins)
