-- `number_all` meets its contract. Assumes nothing.
use Prim.Native.Nat.{◌+◌}
use mathlib.Core.Logic.{inr}
use native.Mathlib.Omega.{arith}
use Rattle.protein_groups_numbering.specs.KnowingLaws.{NumberTurn, numbering_none, numbering_turn, numbering_end}
use Rattle.protein_groups_numbering.proofs.numbering.number_all.Goals.{After-wide}
use Rattle.protein_groups_numbering.proofs.numbering.number_all.Goals as goal

pub loop-i-init : goal.loop-i-init
loop-i-init c = let a = c.args in numbering_none a.w.now a.b a.t a.m a.l a.n c.requires.4

pub learn-found-requires : goal.learn-found-requires
learn-found-requires c =
    let a = c.args in let pre = c.requires in let l = c.loop-i in
    (l.invariant.knows, pre.0, omega arith, rw (l.invariant.rest (a.l + l.i) (inr (omega arith)) (inr (omega arith))) (pre.5 l.i (omega arith)), pre.3)

turn : (c : After-wide)
    → NumberTurn c.args.w.now c.learn-found.new.w c.args.b c.args.t c.args.m c.args.l c.args.n c.loop-i.i c.learn-found.result c.wide.result
turn c =
    let a = c.args in let pre = c.requires in let l = c.loop-i in let k = c.learn-found in
    rw c.wide.ensures.0 (numbering_turn a.w.now l.w k.new.w a.b a.t a.m a.l a.n l.i l.found k.result l.auto.w k.auto.w pre.0 pre.1 pre.2 (omega arith) pre.5 l.invariant k.ensures)

pub overflow_add-of : goal.overflow_add-of
overflow_add-of c = omega (arith, (turn (goal.at.overflow_add-of c).After-wide).inside)

pub bounds-w-of : goal.bounds-w-of
bounds-w-of c = omega (arith, (turn (goal.at.bounds-w-of c).After-wide).inside)

pub overflow_sub-k : goal.overflow_sub-k
overflow_sub-k c = omega (arith, (turn (goal.at.overflow_sub-k c).After-wide).number)

pub loop-i-preserved : goal.loop-i-preserved
loop-i-preserved c = let u = turn (goal.at.loop-i-preserved c).After-wide in u.more _ (omega (arith, u.number))

pub returns : goal.returns
returns c = let a = c.args in let l = c.loop-i in numbering_end a.w.now l.w a.b a.t a.m a.l a.n l.i l.found l.auto.w c.requires.2 (omega arith) l.invariant
