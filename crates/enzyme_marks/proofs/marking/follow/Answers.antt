-- `follow` meets its contract: each record that it comes to is of the list. Assumes nothing.
use native.Mathlib.Omega.{arith}
use Rattle.enzyme_search.specs.MarkLaws.{next-has, has_few}
use Rattle.enzyme_marks.proofs.marking.follow.Goals as goal

pub returns-then-at-eq0 : goal.returns-then-at-eq0
returns-then-at-eq0 c = λ p. absurd (omega arith)

pub behind-at-requires : goal.behind-at-requires
behind-at-requires c = let a = c.args in
    (c.requires.0, has_few a.count a.head a.out.now c.loop.at c.loop.invariant)

pub loop-preserved : goal.loop-preserved
loop-preserved c = let a = c.args in
    let l = c.loop in
    rw c.behind-at.ensures (next-has a.count a.head a.out.now l.at l.invariant (λ z. omega arith))
