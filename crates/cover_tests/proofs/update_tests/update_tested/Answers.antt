-- `update_tested` meets its contract. Assumes nothing.
use Prim.Native.Nat.{◌/◌, ◌+◌}
use mathlib.Core.Path.{◌≡◌, sym, ◌∙◌}
use mathlib.Core.Bool.{true, false}
use native.Mathlib.Omega.{arith}
use lib.ListN.{length}
use lib.Dec.{ltb}
use borrow.Author.Tests.{lt-ltb, le-ltb}
use Rattle.cover_tests.specs.ReadyLaws.{InLimits, both_in_limits}
use Rattle.cover_tests.specs.Testing.{either_too_large, lengths_wrong}
use Rattle.cover_spec.specs.Marks.{work_needed}
use Rattle.cover_tests.proofs.update_tests.update_tested.Goals.{Else-either_too_large, Else-lengths_wrong, Else-words-work_needed, Then-words-work_needed}
use Rattle.cover_tests.proofs.update_tests.update_tested.Goals as goal

-- the sizes are within their limits
sizes : (c : Else-either_too_large) → let a = c.args in either_too_large (length a.old.now / 8) (length a.new.now / 8) a.groups a.metas ≡ false
sizes c = sym c.either_too_large.ensures ∙ c.if-either_too_large.false

limits : (c : Else-either_too_large) → let a = c.args in InLimits (length a.old.now / 8) a.groups a.metas × InLimits (length a.new.now / 8) a.groups a.metas
limits c = let a = c.args in both_in_limits (length a.old.now / 8) (length a.new.now / 8) a.groups a.metas (sizes c)

-- the lists have whole records, and there is a mark for each group
lengths : (c : Else-lengths_wrong) → let a = c.args in lengths_wrong a.old.now a.new.now a.groups a.given.now ≡ false
lengths c = sym c.lengths_wrong.ensures ∙ c.if-lengths_wrong.false

-- the work memory is enough, or not
short : (c : Then-words-work_needed) → let a = c.args in ltb a.words (work_needed a.groups a.metas (length a.old.now / 8 + length a.new.now / 8)) ≡ true
short c = rw c.work_needed.ensures at (lt-ltb _ _ c.if-words-work_needed.true)

enough : (c : Else-words-work_needed) → let a = c.args in ltb a.words (work_needed a.groups a.metas (length a.old.now / 8 + length a.new.now / 8)) ≡ false
enough c = rw c.work_needed.ensures at (le-ltb _ _ c.if-words-work_needed.false)

pub work_needed-requires : goal.work_needed-requires
work_needed-requires c = let (s, t) = limits (goal.at.work_needed-requires c).Else-either_too_large in (s.groups-max, s.metas-max, omega (arith, s.few, t.few))

pub returns : goal.returns
returns c = rw (sizes (goal.at.returns c).Else-either_too_large, lengths (goal.at.returns c).Else-lengths_wrong, enough (goal.at.returns c).Else-words-work_needed) c.contents.ensures

pub returns-then-either_too_large : goal.returns-then-either_too_large
returns-then-either_too_large c = rw (sym c.either_too_large.ensures ∙ c.if-either_too_large.true)

pub returns-then-lengths_wrong : goal.returns-then-lengths_wrong
returns-then-lengths_wrong c = rw (sizes (goal.at.returns-then-lengths_wrong c).Else-either_too_large, sym c.lengths_wrong.ensures ∙ c.if-lengths_wrong.true)

pub returns-then-words-work_needed : goal.returns-then-words-work_needed
returns-then-words-work_needed c = rw (sizes (goal.at.returns-then-words-work_needed c).Else-either_too_large, lengths (goal.at.returns-then-words-work_needed c).Else-lengths_wrong, short (goal.at.returns-then-words-work_needed c).Then-words-work_needed)

pub contents-requires : goal.contents-requires
contents-requires c = let (s, t) = limits (goal.at.contents-requires c).Else-either_too_large in (s.few, t.few)
