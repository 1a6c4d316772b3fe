-- `position` meets its contract. Assumes nothing.
use borrow.Author.Tests.{eq-eqb, ne_eqb}
use Rattle.enzyme_keep.specs.Digests.{position_of}
use Rattle.enzyme_keep.proofs.record.position.Goals as goal

pub returns-then-e-n : goal.returns-then-e-n
unfolding position_of
returns-then-e-n c = simp (eq-eqb _ _ c.if-a-eq0.true, eq-eqb _ _ c.if-e-n.true)

pub returns-else-e-n : goal.returns-else-e-n
unfolding position_of
returns-else-e-n c = simp (eq-eqb _ _ c.if-a-eq0.true, ne_eqb _ _ c.if-e-n.false)

pub returns-then-e-n-2 : goal.returns-then-e-n-2
unfolding position_of
returns-then-e-n-2 c = simp (ne_eqb _ _ c.if-a-eq0.false, eq-eqb _ _ c.if-e-n-2.true)

pub returns-else-e-n-2 : goal.returns-else-e-n-2
unfolding position_of
returns-else-e-n-2 c = simp (ne_eqb _ _ c.if-a-eq0.false, ne_eqb _ _ c.if-e-n-2.false)
