-- `run_size` meets its contract: what is counted and the places ahead give the whole. Assumes nothing.
use native.Mathlib.Omega.{arith}
use mathlib.Core.Path.{sym, ◌∙◌}
use Rattle.enzyme_weights.specs.SizeLaws.{size-on, size_stop, size_end}
use Rattle.enzyme_weights.proofs.level.Level.run_size.Goals as goal

pub loop-q-init : goal.loop-q-init
loop-q-init c = (omega arith, omega arith)

pub returns-then-from-p : goal.returns-then-from-p
returns-then-from-p c =
    let a = c.args in
    let l = c.loop-q in
    omega (arith, l.invariant.1, size_stop a.self.now.runs.now a.self.now.g a.p l.q (omega arith) (λ e. c.if-from-p.true (c.from.ensures ∙ e)))

pub loop-q-preserved : goal.loop-q-preserved
loop-q-preserved c =
    let a = c.args in
    let l = c.loop-q in
    (omega arith, omega (arith, l.invariant.1, size-on a.self.now.runs.now a.self.now.g a.p l.q (omega arith) (sym c.from.ensures ∙ c.if-from-p.false)))

pub returns : goal.returns
returns c =
    let a = c.args in
    let l = c.loop-q in
    omega (arith, l.invariant.1, size_end a.self.now.runs.now a.self.now.g a.p l.q (omega arith))
