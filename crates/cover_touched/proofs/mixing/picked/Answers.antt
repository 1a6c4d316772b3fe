-- `picked` meets its contract. Assumes nothing.
use borrow.Author.Tests.{eq-eqb, ne_eqb}
use Rattle.cover_touched.proofs.mixing.picked.Goals as goal

pub returns-then-low-eq0 : goal.returns-then-low-eq0
returns-then-low-eq0 c = rw (eq-eqb _ _ c.if-low-eq0.true)

pub returns-else-low-eq0 : goal.returns-else-low-eq0
returns-else-low-eq0 c = rw (ne_eqb _ _ c.if-low-eq0.false)
