-- `name_runs` meets its contract. Assumes nothing.
use mathlib.Core.Path.{◌≡◌, refl, sym}
use lib.ListN.{get_or}
use native.Mathlib.Omega.{arith}
use Rattle.enzyme_rows.specs.TurnLaws.{written_for_none, written_for_more}
use Rattle.enzyme_rows.proofs.rows.name_runs.Goals as goal

pub loop-i-init : goal.loop-i-init
loop-i-init c = let a = c.args in (written_for_none (λ p. get_or a.order.now (get_or a.runs.now p 0) 0) a.order.now a.name.now)

pub bounds-order-first : goal.bounds-order-first
bounds-order-first c = let l = c.loop-i in let b = c.requires.4 l.i (omega arith) in omega (arith, b, c.from-first.ensures)

pub bounds-name-x : goal.bounds-name-x
bounds-name-x c = let l = c.loop-i in let b = c.requires.3 c.from-x.result (l.i, omega arith, sym c.from-x.ensures) in omega (arith, b, l.invariant.long)

pub loop-i-preserved : goal.loop-i-preserved
loop-i-preserved c = let a = c.args in
    let l = c.loop-i in
    let b = c.requires.3 (get_or a.order.now l.i 0) (l.i, omega arith, refl) in
    rw (c.from-x.ensures, c.from-first.ensures) (written_for_more (λ p. get_or a.order.now (get_or a.runs.now p 0) 0) a.order.now a.name.now l.name a.g l.i c.requires.2 (omega arith) b l.invariant)

pub returns : goal.returns
returns c = let e : c.loop-i.i ≡ c.args.g = omega arith in rw e at c.loop-i.invariant

pub shape_of-name : goal.shape_of-name
shape_of-name c = c.loop-i.invariant.long
