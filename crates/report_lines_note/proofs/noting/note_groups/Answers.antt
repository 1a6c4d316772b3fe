-- `note_groups` meets its contract. Assumes nothing.
use native.Mathlib.Omega.{arith}
use Rattle.report_lines_note.specs.NoteLaws.{flag_none, flag_turn}
use Rattle.report_lines_note.proofs.noting.note_groups.Goals as goal

pub loop-i-init : goal.loop-i-init
loop-i-init c = let a = c.args in λ list h. flag_none a.marks.now list a.w.now a.decoy a.c a.m c.requires.4

pub note_group-requires : goal.note_group-requires
note_group-requires c =
    let g = c.requires.2 c.loop-i.i c.loop-i-test.true in
    let p = c.requires.3 c.loop-i.i c.loop-i-test.true in
    (omega arith, omega arith, omega arith)

pub loop-i-preserved : goal.loop-i-preserved
loop-i-preserved c =
    let a = c.args in
    let l = c.loop-i in
    let call = c.note_group in
    λ list h. flag_turn a.members.now l.i a.marks.now list a.decoy a.w.now l.w _ a.c a.m (c.requires.2 l.i c.loop-i-test.true) (c.requires.3 l.i c.loop-i-test.true) (omega arith) h call.ensures (l.invariant list h)
