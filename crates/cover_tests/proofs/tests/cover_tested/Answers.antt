-- `cover_tested` meets its contract, test by test. Assumes nothing.
use Prim.Native.Nat.{◌/◌}
use mathlib.Core.Path.{◌≡◌, sym, ◌∙◌}
use mathlib.Core.Bool.{true, false}
use lib.ListN.{length}
use lib.Dec.{ltb}
use borrow.Author.Tests.{lt-ltb, le-ltb, eq-eqb, ne_eqb}
use native.Mathlib.Omega.{arith}
use Rattle.cover_tests.specs.Testing.{too_large}
use Rattle.cover_tests.specs.ReadyLaws.{InLimits, in_limits}
use Rattle.cover_spec.specs.Marks.{work_needed}
use Rattle.cover_tests.proofs.tests.cover_tested.Goals.{Else-too_large, Else-words-work_needed, Then-words-work_needed}
use Rattle.cover_tests.proofs.tests.cover_tested.Goals as goal

-- the sizes are within their limits
sizes : (c : Else-too_large) → let a = c.args in too_large (length a.edges.now / 8) a.groups a.metas ≡ false
sizes c = sym c.too_large.ensures ∙ c.if-too_large.false

limits : (c : Else-too_large) → let a = c.args in InLimits (length a.edges.now / 8) a.groups a.metas
limits c = let a = c.args in in_limits (length a.edges.now / 8) a.groups a.metas (sizes c)

-- the work memory is enough, or not
short : (c : Then-words-work_needed) → let a = c.args in ltb a.words (work_needed a.groups a.metas (length a.edges.now / 8)) ≡ true
short c = rw c.work_needed.ensures at (lt-ltb _ _ c.if-words-work_needed.true)

enough : (c : Else-words-work_needed) → let a = c.args in ltb a.words (work_needed a.groups a.metas (length a.edges.now / 8)) ≡ false
enough c = rw c.work_needed.ensures at (le-ltb _ _ c.if-words-work_needed.false)

pub returns : goal.returns
returns c = rw (sizes (goal.at.returns c).Else-too_large, eq-eqb _ _ c.if-edges-ne0.false, enough (goal.at.returns c).Else-words-work_needed) c.edges_tested.ensures

pub returns-then-too_large : goal.returns-then-too_large
returns-then-too_large c = rw (sym c.too_large.ensures ∙ c.if-too_large.true)

pub returns-then-edges-ne0 : goal.returns-then-edges-ne0
returns-then-edges-ne0 c = rw (sizes (goal.at.returns-then-edges-ne0 c).Else-too_large, ne_eqb _ _ c.if-edges-ne0.true)

pub work_needed-requires : goal.work_needed-requires
work_needed-requires c = let s = limits (goal.at.work_needed-requires c).Else-too_large in (s.groups-max, s.metas-max, omega (arith, s.few))

pub returns-then-words-work_needed : goal.returns-then-words-work_needed
returns-then-words-work_needed c = rw (sizes (goal.at.returns-then-words-work_needed c).Else-too_large, eq-eqb _ _ c.if-edges-ne0.false, short (goal.at.returns-then-words-work_needed c).Then-words-work_needed)

pub edges_tested-requires : goal.edges_tested-requires
edges_tested-requires c = (limits (goal.at.edges_tested-requires c).Else-too_large).few
