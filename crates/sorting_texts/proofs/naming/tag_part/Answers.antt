-- `tag_part` meets its contract. Assumes nothing.
use Prim.Native.Nat.{◌/◌, ◌%◌}
use borrow.Author.Tests.{eq-eqb, ne_eqb}
use Rattle.sorting_texts.proofs.naming.tag_part.Goals as goal

pub returns-then-x-eq1 : goal.returns-then-x-eq1
returns-then-x-eq1 c = rw (eq-eqb (c.args.x / 2 % 2) 1 c.if-x-eq1.true)

pub returns-else-x-eq1 : goal.returns-else-x-eq1
returns-else-x-eq1 c = rw (ne_eqb (c.args.x / 2 % 2) 1 c.if-x-eq1.false)
