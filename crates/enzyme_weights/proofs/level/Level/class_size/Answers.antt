-- `class_size` meets its contract. Assumes nothing.
use mathlib.Core.Path.{sym, ◌∙◌}
use Rattle.enzyme_weights.specs.SizeLaws.{class_run, class_alone}
use Rattle.enzyme_weights.proofs.level.Level.class_size.Goals as goal

pub returns-then-stands_at : goal.returns-then-stands_at
returns-then-stands_at c = let a = c.args in
    let p = c.from-p in
    c.run_size.ensures ∙ class_run a.self.now.order.now a.self.now.runs.now a.self.now.rank.now a.self.now.g a.i p.result p.ensures (sym c.stands_at.ensures ∙ c.if-stands_at.true)

pub returns : goal.returns
returns c = let a = c.args in
    let p = c.from-p in
    class_alone a.self.now.order.now a.self.now.runs.now a.self.now.rank.now a.self.now.g a.i p.result p.ensures (sym c.stands_at.ensures ∙ c.if-stands_at.false)
