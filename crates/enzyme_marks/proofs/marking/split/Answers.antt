-- `split` meets its contract. Assumes nothing.
use native.Mathlib.Omega.{arith}
use Rattle.enzyme_search.specs.MarkLaws.{sample_has, has_few, put-marked}
use Rattle.enzyme_marks.proofs.marking.split.Goals as goal

pub follow-middle-requires : goal.follow-middle-requires
follow-middle-requires c = let a = c.args in
    (c.requires.0, rw c.sample-start.ensures (λ p. sample_has a.count a.head a.out.now a.marks.now a.samples c.requires.2 a.j c.requires.4))

pub overflow_cast-t : goal.overflow_cast-t
overflow_cast-t c = let a = c.args in
    let h = has_few a.count a.head a.out.now c.follow-middle.result c.follow-middle.ensures in
    let k = c.requires.1 in
    omega arith

pub head_at-key-requires : goal.head_at-key-requires
head_at-key-requires c = let a = c.args in
    let h = has_few a.count a.head a.out.now c.follow-middle.result c.follow-middle.ensures in
    let k = c.requires.1 in
    (omega (arith, c.if-middle-eq0.false), omega arith)

pub returns : goal.returns
returns c = let a = c.args in
    put-marked a.count a.head a.out.now a.marks.now a.samples c.requires.2 c.follow-middle.result c.put_in.new.marks (c.follow-middle.ensures (omega (arith, c.if-middle-eq0.false))) c.requires.3 c.put_in.ensures
