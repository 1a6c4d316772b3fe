-- `mix` meets its contract. Assumes nothing.
use Prim.Native.Nat.{ℕ}
use native.Mathlib.Omega.{arith}
use mathlib.Core.Path.{◌≡◌, refl, ◌∙◌, subst}
use lib.ListN.{length-set}
use Rattle.cover_touched.specs.Touching.{Mixed}
use Rattle.cover_touched.specs.MixingLaws.{mixing_start, mixing_turn}
use Rattle.cover_touched.proofs.mixing.mix.Goals as goal

pub loop-g-init : goal.loop-g-init
loop-g-init c = let a = c.args in (refl, refl, mixing_start a.groups a.metas a.w.now a.given.now a.marks.now c.requires.groups_bound.2)

pub loop-g-preserved : goal.loop-g-preserved
loop-g-preserved c =
    let a = c.args in
    let lp = c.loop-g in
    let found = c.lowest-low in (
      found.auto.w ∙ lp.invariant.0,
      length-set lp.marks lp.g c.picked.result ∙ lp.invariant.1,
      mixing_turn a.groups a.metas a.w.now lp.w found.new.w a.given.now a.marks.now lp.marks lp.g found.result c.picked.result lp.invariant.2 (omega arith) (omega (arith, lp.invariant.1)) found.ensures c.picked.ensures,
    )

pub returns : goal.returns
returns c = let e : c.loop-g.g ≡ c.args.k = omega arith in λ old new t. subst (λ (k : ℕ). Mixed old new c.args.given.now k c.args.marks.now c.loop-g.marks) e (c.loop-g.invariant.2.told old new t).1
