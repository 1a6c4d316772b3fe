-- `descend` meets its contract. Assumes nothing.
use mathlib.Core.Path.{◌≡◌, refl, ◌∙◌, subst}
use Prim.Native.Nat.{ℕ, ◌+◌, ◌-◌}
use native.Mathlib.Omega.{arith}
use Rattle.cover_tables.specs.StepLaws.{Levels, levels_end}
use Rattle.cover_edges.specs.Records.{edges_in}
use Rattle.cover_walk.proofs.walking.descend.Goals as goal

pub loop-below-init : goal.loop-below-init
loop-below-init c = (refl, c.requires)

pub sweep-requires : goal.sweep-requires
sweep-requires c = let e : c.loop-below.below - 1 + 1 ≡ c.loop-below.below = omega arith in (rw e c.loop-below.invariant.1, omega arith)

pub loop-below-preserved : goal.loop-below-preserved
loop-below-preserved c = let e : c.loop-below.below - 1 + 1 ≡ c.loop-below.below = omega arith in (c.sweep.auto.w ∙ c.loop-below.invariant.0, rw e at c.sweep.ensures)

pub returns : goal.returns
returns c = levels_end c.args.areas (edges_in c.args.edges.now) c.loop-below.w 0 (subst (λ (x : ℕ). Levels c.args.areas (edges_in c.args.edges.now) x 0 c.loop-below.w) (omega arith) c.loop-below.invariant.1)

pub shape_of-w : goal.shape_of-w
shape_of-w c = c.loop-below.invariant.0
