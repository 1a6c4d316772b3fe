-- `stop` meets its contract. Assumes nothing.
use mathlib.Core.Path.{sym, ◌∙◌}
use lib.ListN.{drop}
use Rattle.sorting_texts.specs.Text.{le_by}
use Rattle.sorting_spec.specs.RunLaws.{run_on, run_off}
use Rattle.sorting_spec.specs.PartLaws.{rest_all}
use native.Mathlib.Omega.{arith}
use Rattle.sorting_runs.proofs.runs.stop.Goals as goal

pub loop-i-preserved : goal.loop-i-preserved
loop-i-preserved c =
    let a = c.args in
    let l = c.loop-i in
    let le = le_by a.by a.letters.now (drop a.e a.w.now) in
    let q = sym (rw (rest_all a.e a.w.now) at c.le.ensures) ∙ c.if-not-le.false in
    (omega arith, l.invariant.1 ∙ run_on le a.w.now l.i a.hi (omega arith) (omega arith) l.p q)

pub returns-then-not-le : goal.returns-then-not-le
returns-then-not-le c =
    let a = c.args in
    let l = c.loop-i in
    let le = le_by a.by a.letters.now (drop a.e a.w.now) in
    let q = sym (rw (rest_all a.e a.w.now) at c.le.ensures) ∙ c.if-not-le.true in
    sym (l.invariant.1 ∙ run_off le a.w.now l.i a.hi (omega arith) (omega arith) l.p q)
