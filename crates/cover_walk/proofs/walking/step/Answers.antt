-- `step` meets its contract. Assumes nothing.
use mathlib.Core.Path.{sym, ap, ◌∙◌}
use Prim.Native.Nat.{ℕ, ◌<◌}
use native.Mathlib.Omega.{arith}
use lib.ListN.{length, get_or}
use Rattle.cover_tables.specs.StepLaws.{place-group, group_inside, levels_pass, levels_take}
use Rattle.cover_edges.specs.Records.{edges_in}
use Rattle.cover_walk.proofs.walking.step.Goals.{After-wide-c}
use Rattle.cover_walk.proofs.walking.step.Goals as goal

inside : (c : After-wide-c) → c.wide-c.result < length c.args.w.now
inside c = rw c.wide-c.ensures.0 (group_inside c.args.areas (edges_in c.args.edges.now) c.args.w.now c.args.d c.args.i c.requires.0 c.requires.1)

pub choose-requires : goal.choose-requires
choose-requires c = (c.requires.0.walk, rw c.wide-c.ensures.0 (place-group c.args.areas (edges_in c.args.edges.now) c.args.w.now c.args.d c.args.i c.requires.0 c.requires.1))

pub returns-then-left-d : goal.returns-then-left-d
returns-then-left-d c = levels_take c.args.areas (edges_in c.args.edges.now) c.args.w.now c.args.d c.args.i c.requires.0 c.requires.1 c.requires.2 (ap (λ (x : ℕ). get_or c.args.w.now x 0) (sym c.wide-c.ensures.0) ∙ sym c.wide-left.ensures.0 ∙ c.if-left-d.true) c.choose.new.w (rw (← c.wide-c.ensures.0) c.choose.ensures)

pub returns-else-left-d : goal.returns-else-left-d
returns-else-left-d c = levels_pass c.args.areas (edges_in c.args.edges.now) c.args.w.now c.args.d c.args.i c.requires.0 c.requires.1 (λ q. c.if-left-d.false (c.wide-left.ensures.0 ∙ ap (λ (x : ℕ). get_or c.args.w.now x 0) c.wide-c.ensures.0 ∙ q))

pub offset_bounds-w-c : goal.offset_bounds-w-c
offset_bounds-w-c c = omega (arith, inside (goal.at.offset_bounds-w-c c).After-wide-c)

pub bounds-w-c : goal.bounds-w-c
bounds-w-c c = inside (goal.at.bounds-w-c c).After-wide-c
