-- `first_bad_bound` meets its contract. Assumes nothing.
use mathlib.Core.Path.{sym, ◌∙◌}
use native.Mathlib.Omega.{arith}
use Rattle.catalogue_spec.specs.Book.{first_bad_bound}
use Rattle.records.specs.SeekingLaws.{seeking_all, seeking_stop, seeking_on, seeking_end}
use Rattle.catalogue_book.proofs.book.first_bad_bound.Goals as goal

pub loop-i-init : goal.loop-i-init
unfolding first_bad_bound
loop-i-init c = seeking_all

pub returns-then-is_bad_bound : goal.returns-then-is_bad_bound
returns-then-is_bad_bound c = seeking_stop c.loop-i.invariant (omega arith) (sym c.is_bad_bound.ensures ∙ c.if-is_bad_bound.true)

pub loop-i-preserved : goal.loop-i-preserved
loop-i-preserved c = seeking_on c.loop-i.invariant (omega arith) (sym c.is_bad_bound.ensures ∙ c.if-is_bad_bound.false)

pub returns : goal.returns
returns c = let e = seeking_end c.loop-i.invariant (omega arith) in omega arith
