-- `first_bad_member` meets its contract. Assumes nothing.
use Prim.Native.Nat.{◌/◌}
use mathlib.Core.Path.{◌≡◌, sym, ap, ◌∙◌}
use mathlib.Core.Bool.{not}
use native.Mathlib.Omega.{arith}
use lib.ListN.{length}
use Rattle.records.specs.SeekingLaws.{seeking_all, seeking_stop, seeking_on, seeking_end}
use Rattle.protein_groups_members.specs.Members.{first_bad_member}
use Rattle.protein_groups_members.proofs.members.first_bad_member.Goals as goal

pub loop-i-init : goal.loop-i-init
unfolding first_bad_member
loop-i-init c = seeking_all

pub loop-i-preserved : goal.loop-i-preserved
loop-i-preserved c = seeking_on c.loop-i.invariant (omega arith) (ap not (sym c.is_good_member.ensures ∙ c.if-not-is_good_member.false))

pub returns-then-not-is_good_member : goal.returns-then-not-is_good_member
returns-then-not-is_good_member c = seeking_stop c.loop-i.invariant (omega arith) (ap not (sym c.is_good_member.ensures ∙ c.if-not-is_good_member.true))

pub returns : goal.returns
returns c = let e : length c.args.members.now / 12 ≡ c.loop-i.i = omega arith in e ∙ seeking_end c.loop-i.invariant (omega arith)
