-- `new_weight` meets its contract. Assumes nothing.
use native.Mathlib.Omega.{arith}
use mathlib.Core.Path.{refl}
use lib.ListN.{get_or}
use Rattle.enzyme_weights.specs.SizeLaws.{class_past}
use Rattle.enzyme_weights.proofs.level.Level.new_weight.Goals as goal

pub returns-then-self-eq0 : goal.returns-then-self-eq0
returns-then-self-eq0 c = let a = c.args in
    class_past a.self.now.order.now a.self.now.runs.now a.self.now.rank.now a.self.now.g a.i (get_or a.self.now.rank.now a.i 0) refl (omega (arith, c.if-self-eq0.true))
