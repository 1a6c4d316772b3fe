-- `write_members` meets its contract: what is still to be written gives the whole. Assumes nothing.
use Rattle.protein_groups_spec.specs.Rows.{standing_member}
use Rattle.protein_groups_members.specs.Members.{member_bytes}
use Rattle.protein_groups_copy.specs.WritingLaws.{WrittenTo}
use Rattle.protein_groups_copy.proofs.writing.write_members.Given as goal

abbrev pub invariant-loop-j : goal.invariant-loop-j
invariant-loop-j l = WrittenTo 12 131072 member_bytes (standing_member l.w l.o l.s) l.n l.initial.out l.out l.j
