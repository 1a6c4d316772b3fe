-- `bring` meets its contract. Assumes nothing.
use mathlib.Core.Path.{◌≡◌, refl, sym}
use lib.ListN.{get_or}
use native.Mathlib.Omega.{arith}
use Rattle.enzyme_rows.specs.TurnLaws.{written_for_none, written_for_more}
use Rattle.enzyme_rows.proofs.rows.bring.Goals as goal

pub loop-i-init : goal.loop-i-init
loop-i-init c = let a = c.args in (written_for_none (λ p. get_or a.runs.now p 0) a.order.now a.rank.now)

pub bounds-rank-x : goal.bounds-rank-x
bounds-rank-x c = let l = c.loop-i in let b = c.requires.3 c.from-x.result (l.i, omega arith, sym c.from-x.ensures) in omega (arith, b, l.invariant.long)

pub loop-i-preserved : goal.loop-i-preserved
loop-i-preserved c = let a = c.args in
    let l = c.loop-i in
    let b = c.requires.3 (get_or a.order.now l.i 0) (l.i, omega arith, refl) in
    rw c.from-x.ensures (written_for_more (λ p. get_or a.runs.now p 0) a.order.now a.rank.now l.rank a.g l.i c.requires.2 (omega arith) b l.invariant)

pub returns : goal.returns
returns c = let e : c.loop-i.i ≡ c.args.g = omega arith in rw e at c.loop-i.invariant

pub shape_of-rank : goal.shape_of-rank
shape_of-rank c = c.loop-i.invariant.long
