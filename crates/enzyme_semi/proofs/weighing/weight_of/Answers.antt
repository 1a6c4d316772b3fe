-- `weight_of` meets its contract. Assumes nothing.
use Prim.Native.Nat.{suc}
use mathlib.Core.Path.{◌∙◌}
use native.Mathlib.Omega.{arith}
use Rattle.enzyme_weights.specs.SizeLaws.{weight-shared, weight-none, weight_class}
use Rattle.enzyme_semi.proofs.weighing.weight_of.Goals as goal

pub returns-then-missed-shared : goal.returns-then-missed-shared
returns-then-missed-shared c =
    let a = c.args in
    weight-shared a.order.now a.runs.now a.rank.now a.share.now a.g (suc a.missed) a.i (omega (arith, c.if-missed-shared.true, c.shared.ensures))

pub returns-then-g-eq0 : goal.returns-then-g-eq0
returns-then-g-eq0 c =
    let a = c.args in
    weight-none a.order.now a.runs.now a.rank.now a.share.now a.g (suc a.missed) a.i (omega (arith, c.if-missed-shared.false, c.shared.ensures)) (omega (arith, c.if-g-eq0.true))

pub new_weight-requires : goal.new_weight-requires
new_weight-requires c =
    let p = c.requires in
    let t = p.0 in
    let r = t.ranks (omega (arith, c.if-g-eq0.false)) in
    omega (arith, r, p.1)

pub returns : goal.returns
returns c =
    let a = c.args in
    c.new_weight.ensures ∙ weight_class a.order.now a.runs.now a.rank.now a.share.now a.g (suc a.missed) a.i (omega (arith, c.if-missed-shared.false, c.shared.ensures))
