-- `reach` meets its contract. Assumes nothing.
use Prim.Native.Nat.{◌+◌, ◌<◌}
use native.Mathlib.Omega.{arith}
use lib.ListN.{length}
use Rattle.cover_tables.specs.StepLaws.{reaching_lists, reaching_start, reaching_inside, reaching_meta, reaching_step, reaches}
use Rattle.cover_edges.specs.Records.{edges_in}
use Rattle.cover_taking.proofs.taking.reach.Goals.{In-loop-p, Start}
use Rattle.cover_taking.proofs.taking.reach.Goals as goal

-- the boundaries of the group's list, and the place of the walk
lists : (c : Start) → c.args.areas.go + c.args.c + 1 < length c.args.w.now
lists c = (reaching_lists c.args.areas (edges_in c.args.edges.now) c.args.c c.requires.1 c.args.w.now c.requires.0).1

inside : (c : In-loop-p) → c.loop-p.p < length c.loop-p.w
inside c = let lp = c.loop-p in reaching_inside c.args.areas (edges_in c.args.edges.now) c.args.c c.requires.1 c.args.w.now c.requires.0 lp.w lp.p lp.invariant (omega (arith, c.stretch_at-list.ensures.1))

pub loop-p-init : goal.loop-p-init
loop-p-init c = rw c.stretch_at-list.ensures.0 (reaching_start c.args.areas (edges_in c.args.edges.now) c.args.c c.requires.1 c.args.w.now c.requires.0)

pub visit-requires : goal.visit-requires
visit-requires c =
    let lp = c.loop-p in
    (lp.invariant.walk, rw c.wide-x.ensures.0 (reaching_meta c.args.areas (edges_in c.args.edges.now) c.args.c c.requires.1 c.args.w.now c.requires.0 lp.w lp.p lp.invariant (omega (arith, c.stretch_at-list.ensures.1))))

pub loop-p-preserved : goal.loop-p-preserved
loop-p-preserved c =
    let lp = c.loop-p in
    let call = c.visit in
    reaching_step c.args.areas (edges_in c.args.edges.now) c.args.c c.requires.1 c.args.w.now c.requires.0 lp.w lp.p lp.invariant (omega (arith, c.stretch_at-list.ensures.1)) call.new.w call.auto.w (rw (← c.wide-x.ensures.0) call.ensures)

pub returns : goal.returns
returns c = let lp = c.loop-p in reaches c.args.areas (edges_in c.args.edges.now) c.args.c c.requires.1 c.args.w.now c.requires.0 lp.w lp.p lp.invariant (omega (arith, c.stretch_at-list.ensures.1))

pub overflow_add-areas : goal.overflow_add-areas
overflow_add-areas c = omega (arith, lists (goal.at.overflow_add-areas c).Start)

pub stretch_at-list-requires : goal.stretch_at-list-requires
stretch_at-list-requires c = lists (goal.at.stretch_at-list-requires c).Start

pub offset_bounds-w-p : goal.offset_bounds-w-p
offset_bounds-w-p c = omega (arith, inside (goal.at.offset_bounds-w-p c).In-loop-p)

pub bounds-w-p : goal.bounds-w-p
bounds-w-p c = inside (goal.at.bounds-w-p c).In-loop-p

pub shape_of-w : goal.shape_of-w
shape_of-w c = c.loop-p.invariant.size
