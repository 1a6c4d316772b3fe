-- `first_wide` meets its contract. Assumes nothing.
use mathlib.Core.Path.{ap}
use mathlib.Core.Bool.{not}
use native.Mathlib.Omega.{arith}
use borrow.Author.Tests.{lt-ltb, le-ltb}
use Rattle.records.specs.SeekingLaws.{seeking_all, seeking_stop, seeking_on, seeking_end}
use Rattle.modification_texts.specs.Texts.{first_wide}
use Rattle.modification_texts.proofs.text.first_wide.Goals as goal

pub loop-i-init : goal.loop-i-init
unfolding first_wide
loop-i-init c = seeking_all

pub loop-i-preserved : goal.loop-i-preserved
loop-i-preserved c = seeking_on c.loop-i.invariant (omega arith) (ap not (lt-ltb _ _ (omega arith)))

pub returns-then-b-ge128 : goal.returns-then-b-ge128
returns-then-b-ge128 c = seeking_stop c.loop-i.invariant (omega arith) (ap not (le-ltb _ _ (omega arith)))

pub returns : goal.returns
returns c = let e = seeking_end c.loop-i.invariant (omega arith) in omega arith
