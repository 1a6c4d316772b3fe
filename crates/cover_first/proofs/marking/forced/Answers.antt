-- `forced` meets its contract. Assumes nothing.
use mathlib.Core.Path.{◌≡◌}
use Prim.Native.Nat.{◌+◌, ◌≤◌, ◌<◌}
use native.Mathlib.Omega.{arith}
use lib.ListN.{length, get_or}
use Rattle.cover_first.specs.FirstLaws.{group_at, flags_start, only_edge, forced_inside, forced_step}
use Rattle.cover_first.proofs.marking.forced.Goals.{After-meta-x}
use Rattle.cover_first.proofs.marking.forced.Goals as goal

inside : (c : After-meta-x) → let w = c.loop-i.w in let a = c.args.areas in (a.groups + a.metas + c.group-g.result < length w) × (a.mo + c.meta-x.result + 1 < length w) × (get_or w (a.mo + c.meta-x.result) 0 ≤ get_or w (a.mo + c.meta-x.result + 1) 0)
inside c =
    let lp = c.loop-i in
    rw (c.group-g.ensures.0, c.meta-x.ensures.0) (forced_inside c.args.areas c.args.edges.now.bytes.now c.args.edges.now.count c.args.w.now c.requires.1 lp.w lp.i (omega arith) c.requires.0 lp.invariant)

pub loop-i-init : goal.loop-i-init
loop-i-init c =
    let a = c.args.areas in
    flags_start (a.groups + a.metas) a.groups (group_at c.args.edges.now.bytes.now) (only_edge a.mo c.args.edges.now.bytes.now c.args.w.now) c.args.w.now (λ y b. c.requires.2 (a.groups + a.metas + y) (omega arith))

pub loop-i-preserved : goal.loop-i-preserved
loop-i-preserved c =
    let lp = c.loop-i in
    rw c.group-g.ensures.0
    (forced_step c.args.areas c.args.edges.now.bytes.now c.args.edges.now.count c.args.w.now c.requires.1 lp.w lp.i (omega arith) c.requires.0 lp.invariant c.flagged.result (rw (← c.group-g.ensures.0, ← c.meta-x.ensures.0, ← c.size_at-only.ensures) c.flagged.ensures))

pub returns : goal.returns
returns c = let e : c.loop-i.i ≡ c.args.edges.now.count = omega arith in rw e at c.loop-i.invariant

pub group-g-requires : goal.group-g-requires
group-g-requires c = omega (arith, c.requires.3)

pub meta-x-requires : goal.meta-x-requires
meta-x-requires c = omega (arith, c.requires.3)

pub overflow_add-areas : goal.overflow_add-areas
overflow_add-areas c = omega (arith, (inside (goal.at.overflow_add-areas c).After-meta-x).1)

pub size_at-only-requires : goal.size_at-only-requires
size_at-only-requires c = ((inside (goal.at.size_at-only-requires c).After-meta-x).1, (inside (goal.at.size_at-only-requires c).After-meta-x).2)

pub overflow_add-at : goal.overflow_add-at
overflow_add-at c = omega (arith, (inside (goal.at.overflow_add-at c).After-meta-x).0)

pub overflow_add-at-in-loop-i : goal.overflow_add-at-in-loop-i
overflow_add-at-in-loop-i c = omega (arith, (inside (goal.at.overflow_add-at-in-loop-i c).After-meta-x).0)

pub offset_bounds-w-at : goal.offset_bounds-w-at
offset_bounds-w-at c = omega (arith, (inside (goal.at.offset_bounds-w-at c).After-meta-x).0)

pub bounds-w-at : goal.bounds-w-at
bounds-w-at c = (inside (goal.at.bounds-w-at c).After-meta-x).0

pub offset_bounds-w-at-in-loop-i : goal.offset_bounds-w-at-in-loop-i
offset_bounds-w-at-in-loop-i c = omega (arith, (inside (goal.at.offset_bounds-w-at-in-loop-i c).After-meta-x).0)

pub bounds-w-at-in-loop-i : goal.bounds-w-at-in-loop-i
bounds-w-at-in-loop-i c = (inside (goal.at.bounds-w-at-in-loop-i c).After-meta-x).0

pub shape_of-w : goal.shape_of-w
shape_of-w c = c.loop-i.invariant.size
