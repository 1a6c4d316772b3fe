-- `go_along` meets its contract. Assumes nothing.
use native.Mathlib.Omega.{arith}
use mathlib.Core.Path.{◌≡◌}
use Prim.Native.Nat.{◌+◌, ◌-◌, ◌*◌}
use Rattle.records.specs.Le.{number_at}
use Rattle.cover_differing.specs.WalkingLaws.{pass-start, meta_in, meta-small, next_in, next_falls, pass-turn, pass_end}
use Rattle.cover_differing.proofs.passing.go_along.Goals.{After-meta-m}
use Rattle.cover_differing.proofs.passing.go_along.Goals as goal

-- the record's meta-peptide
meta : (c : After-meta-m) → c.meta-m.result ≡ number_at 4 c.args.edges.now.bytes.now (8 * (c.loop-h.h - 1) + 4)
meta c = c.meta-m.ensures.0

pub loop-h-init : goal.loop-h-init
loop-h-init c = pass-start c.requires.walkable c.requires.g_lt_groups.0 c.requires.g_lt_groups.1 c.wide-h.ensures.0

pub bounds-w-m : goal.bounds-w-m
bounds-w-m c = meta_in c.requires.walkable c.loop-h.invariant c.loop-h-test.true (meta (goal.at.bounds-w-m c).After-meta-m)

pub change-requires : goal.change-requires
change-requires c = meta-small c.requires.walkable c.loop-h.invariant c.loop-h-test.true (meta (goal.at.change-requires c).After-meta-m)

pub bounds-w-m-in-loop-h : goal.bounds-w-m-in-loop-h
bounds-w-m-in-loop-h c = meta_in c.requires.walkable c.loop-h.invariant c.loop-h-test.true (meta (goal.at.bounds-w-m-in-loop-h c).After-meta-m)

pub bounds-w-links-in-loop-h : goal.bounds-w-links-in-loop-h
bounds-w-links-in-loop-h c = next_in c.requires.walkable c.loop-h.invariant c.loop-h-test.true (meta (goal.at.bounds-w-links-in-loop-h c).After-meta-m) c.change.ensures

pub loop-h-smaller : goal.loop-h-smaller
loop-h-smaller c = rw c.wide-h-in-loop-h.ensures.0 (next_falls c.requires.walkable c.loop-h.invariant c.loop-h-test.true (meta (goal.at.loop-h-smaller c).After-meta-m) c.change.ensures)

pub loop-h-preserved : goal.loop-h-preserved
loop-h-preserved c = rw (c.wide-h-in-loop-h.ensures.0, c.tells-told.ensures) (pass-turn c.requires.walkable c.loop-h.invariant c.loop-h-test.true (meta (goal.at.loop-h-preserved c).After-meta-m) c.change.ensures)

pub shape_of-w : goal.shape_of-w
shape_of-w c = c.loop-h.invariant.long

pub returns : goal.returns
returns c = pass_end c.loop-h.invariant (omega arith)
