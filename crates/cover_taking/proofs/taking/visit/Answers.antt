-- `visit` meets its contract. Assumes nothing.
use mathlib.Core.Path.{◌∙◌}
use Prim.Native.Nat.{◌+◌}
use lib.ListN.{length-set}
use borrow.Author.Tests.{eq-eqb, ne_eqb}
use Rattle.cover_tables.specs.StepLaws.{meta_visited, visited_before, visit_lowerable, meta-lists}
use Rattle.cover_edges.specs.Records.{edges_in}
use Rattle.cover_taking.proofs.taking.visit.Goals as goal

pub returns-then-w-areas-eq1 : goal.returns-then-w-areas-eq1
returns-then-w-areas-eq1 c = visited_before c.args.areas (edges_in c.args.edges.now) c.args.w.now c.requires.0 c.args.x c.requires.1 (eq-eqb _ 1 c.if-w-areas-eq1.true)

pub stretch_at-list-requires : goal.stretch_at-list-requires
stretch_at-list-requires c = simp length-set (meta-lists c.args.areas (edges_in c.args.edges.now) c.args.w.now c.requires.0 c.args.x c.requires.1).1

pub lower-requires : goal.lower-requires
lower-requires c =
    rw (c.stretch_at-list.ensures.0, c.stretch_at-list.ensures.1)
    (visit_lowerable c.args.areas (edges_in c.args.edges.now) c.args.w.now c.requires.0 c.args.x c.requires.1 (ne_eqb _ 1 c.if-w-areas-eq1.false))

pub shape_of-w : goal.shape_of-w
shape_of-w c = let a = c.args in c.lower.auto.w ∙ length-set a.w.now (a.areas.groups + a.x) 1

pub returns : goal.returns
returns c =
    let list = c.stretch_at-list in
    let low = c.lower in
    meta_visited c.args.areas (edges_in c.args.edges.now) c.args.w.now c.requires.0 c.args.x c.requires.1 low.new.w low.auto.w (ne_eqb _ 1 c.if-w-areas-eq1.false)
    (rw (← list.ensures.0, ← list.ensures.1) low.ensures.0) low.ensures.1
