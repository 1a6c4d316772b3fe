-- `first_bad_edge` meets its contract. Assumes nothing.
use mathlib.Core.Path.{sym, ◌∙◌}
use native.Mathlib.Omega.{arith}
use Rattle.records.specs.SeekingLaws.{seeking_all, seeking_stop, seeking_on, seeking_end}
use Rattle.cover_edges.specs.Edges.{first_bad_edge}
use Rattle.cover_edges.proofs.range.first_bad_edge.Goals as goal

pub loop-i-init : goal.loop-i-init
unfolding first_bad_edge
loop-i-init c = seeking_all

pub returns-then-is_bad_edge : goal.returns-then-is_bad_edge
returns-then-is_bad_edge c = seeking_stop c.loop-i.invariant (omega arith) (sym (rw c.of-all.ensures.0 at c.is_bad_edge.ensures) ∙ c.if-is_bad_edge.true)

pub loop-i-preserved : goal.loop-i-preserved
loop-i-preserved c = seeking_on c.loop-i.invariant (omega arith) (sym (rw c.of-all.ensures.0 at c.is_bad_edge.ensures) ∙ c.if-is_bad_edge.false)

pub returns : goal.returns
returns c = omega (arith, c.of-all.ensures.1, seeking_end c.loop-i.invariant (omega arith))
