-- `write_rest` meets its contract: the texts from i on are still to come. Assumes nothing.
use native.Mathlib.Omega.{arith}
use Rattle.sorting_texts.specs.Text.{joined_text}
use Rattle.report_lines_texts.specs.WriteLaws.{coming_all, coming_done, after-length, after_turn, after_last}
use Rattle.report_lines_texts.proofs.writing.Texts.write_rest.Goals as goal

pub write_next-k-requires : goal.write_next-k-requires
write_next-k-requires c =
    let a = c.args in
    let l = c.loop-i in
    omega (arith, l.invariant.ends, c.requires, after-length (joined_text a.self.now.names.now a.self.now.keys.now) a.starts.now l.i c.loop-i-test.true)

pub loop-i-preserved : goal.loop-i-preserved
loop-i-preserved c =
    let a = c.args in
    let l = c.loop-i in
    after_turn (joined_text a.self.now.names.now a.self.now.keys.now) a.starts.now l.i c.loop-i-test.true l.invariant c.write_next-k.ensures

pub returns : goal.returns
returns c =
    let a = c.args in
    let l = c.loop-i in
    coming_done (after_last (joined_text a.self.now.names.now a.self.now.keys.now) a.starts.now l.i c.loop-i-test.false) l.invariant

pub loop-i-init : goal.loop-i-init
loop-i-init c = coming_all
