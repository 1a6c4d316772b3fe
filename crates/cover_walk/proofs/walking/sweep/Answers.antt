-- `sweep` meets its contract. Assumes nothing.
use mathlib.Core.Path.{refl, ◌∙◌}
use native.Mathlib.Omega.{arith}
use Rattle.cover_tables.specs.StepLaws.{levels_down}
use Rattle.cover_edges.specs.Records.{edges_in}
use Rattle.cover_walk.proofs.walking.sweep.Goals as goal

pub loop-i-init : goal.loop-i-init
loop-i-init c = (refl, c.requires.0)

pub more-requires : goal.more-requires
more-requires c = (c.loop-i.invariant.1.walk, omega arith)

pub step-requires : goal.step-requires
step-requires c = (c.loop-i.invariant.1, omega arith, c.requires.1)

pub loop-i-preserved : goal.loop-i-preserved
loop-i-preserved c = (c.step.auto.w ∙ c.loop-i.invariant.0, c.step.ensures)

pub returns-then-not-more : goal.returns-then-not-more
returns-then-not-more c = levels_down c.args.areas (edges_in c.args.edges.now) c.loop-i.w c.args.d c.loop-i.i c.loop-i.invariant.1 c.requires.1 (λ b. c.more.ensures c.if-not-more.true)

pub returns : goal.returns
returns c = levels_down c.args.areas (edges_in c.args.edges.now) c.loop-i.w c.args.d c.loop-i.i c.loop-i.invariant.1 c.requires.1 (λ b. absurd (omega arith))

pub shape_of-w : goal.shape_of-w
shape_of-w c = c.loop-i.invariant.0
