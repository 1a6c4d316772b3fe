-- `run_len` meets its contract: what was passed and the run of the rest are the whole run. Assumes nothing.
use Prim.Native.Nat.{◌+◌}
use mathlib.Core.Path.{◌≡◌, sym, ◌∙◌}
use mathlib.Core.Bool.{true, false}
use native.Mathlib.Omega.{arith}
use lib.ListN.{get_or}
use Rattle.fasta_lines.specs.Lines.{goes_on}
use Rattle.fasta_lines.specs.LineLaws.{run_on, run_stop, run_end}
use Rattle.fasta_lines.proofs.runs.run_len.Goals as goal

pub loop-i-preserved : goal.loop-i-preserved
loop-i-preserved c =
    let a = c.args in
    let l = c.loop-i in
    let e : goes_on a.kind (get_or a.s.now l.i 0) (get_or a.s.now (l.i + 1) 0) ≡ true = cc in
    run_on a.kind a.s.now l.i (omega arith) e ∙ l.invariant

pub returns-then-not-goes_on : goal.returns-then-not-goes_on
returns-then-not-goes_on c =
    let a = c.args in
    let l = c.loop-i in
    let e : goes_on a.kind (get_or a.s.now l.i 0) (get_or a.s.now (l.i + 1) 0) ≡ false = cc in
    (sym (run_stop a.kind a.s.now l.i (omega arith) e) ∙ l.invariant, omega arith)

pub returns : goal.returns
returns c =
    let a = c.args in
    let e = run_end a.kind a.s.now c.loop-i.i c.loop-i-test.false in
    (omega arith, omega arith)
