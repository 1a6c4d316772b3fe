-- `capital` meets its contract. Assumes nothing.
use Rattle.std.proofs.Common.{leb, sym, ◌∙◌, arith, leb-true}
use Rattle.lists.specs.Tests.{both}
use Rattle.letters.specs.Letters.{capital}
use Rattle.letters.proofs.stretch.capital.Goals as goal

pub overflow_sub-result : goal.overflow_sub-result
overflow_sub-result c = let b = c.args.b in omega (arith, leb-true 97 b (both (leb 97 b) (leb b 122) (sym c.is_small.ensures ∙ c.if-is_small.true)).0)

pub returns-then-is_small : goal.returns-then-is_small
unfolding capital
returns-then-is_small c = rw (sym c.is_small.ensures ∙ c.if-is_small.true)

pub returns-else-is_small : goal.returns-else-is_small
unfolding capital
returns-else-is_small c = rw (sym c.is_small.ensures ∙ c.if-is_small.false)
