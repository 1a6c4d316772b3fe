-- `weight_at` meets its contract. Assumes nothing.
use native.Mathlib.Omega.{arith}
use mathlib.Core.Path.{◌∙◌}
use Rattle.enzyme_weights.specs.SizeLaws.{weight-shared, weight_class}
use Rattle.enzyme_weights.proofs.level.Level.weight_at.Goals as goal

pub returns-then-n-shared : goal.returns-then-n-shared
returns-then-n-shared c = let a = c.args in
    weight-shared a.self.now.order.now a.self.now.runs.now a.self.now.rank.now a.self.now.share.now a.self.now.g a.n a.i (omega (arith, c.from-shared.ensures, c.if-n-shared.true))

pub returns : goal.returns
returns c = let a = c.args in
    c.new_weight.ensures ∙ weight_class a.self.now.order.now a.self.now.runs.now a.self.now.rank.now a.self.now.share.now a.self.now.g a.n a.i (omega (arith, c.from-shared.ensures, c.if-n-shared.false))
