-- `note_list` meets its contract. Assumes nothing.
use native.Mathlib.Omega.{arith}
use Rattle.report_lines_note.specs.NoteLaws.{list_none, list_more, list_all}
use Rattle.report_lines_note.proofs.noting.note_list.Goals as goal

pub loop-p-init : goal.loop-p-init
loop-p-init c = list_none c.args.list.now c.args.w.now c.args.c c.requires.2

pub bounds-w-p : goal.bounds-w-p
bounds-w-p c = omega (arith, c.requires.1 c.loop-p.p-index c.loop-p-test.true)

pub loop-p-preserved : goal.loop-p-preserved
loop-p-preserved c =
    let a = c.args in
    let l = c.loop-p in
    list_more a.list.now a.w.now l.w a.c l.p-index (omega arith) (c.requires.1 l.p-index (omega arith)) (omega arith) l.invariant

pub returns : goal.returns
returns c = let a = c.args in list_all a.list.now a.w.now c.loop-p.w a.c c.loop-p.p-index (omega arith) c.loop-p.invariant
