-- `choose` meets its contract. Assumes nothing.
use mathlib.Core.Path.{◌∙◌}
use Prim.Native.Nat.{◌+◌}
use lib.ListN.{length-set}
use Rattle.cover_tables.specs.StepLaws.{mark_walk, takes_all}
use Rattle.cover_edges.specs.Records.{edges_in}
use Rattle.cover_taking.proofs.taking.choose.Goals as goal

pub reach-requires : goal.reach-requires
reach-requires c = (mark_walk c.args.areas (edges_in c.args.edges.now) c.args.c c.requires.1 c.args.w.now c.requires.0, c.requires.1)

pub shape_of-w : goal.shape_of-w
shape_of-w c = let a = c.args in c.reach.auto.w ∙ length-set a.w.now (a.areas.groups + a.areas.metas + a.c) 1

pub returns : goal.returns
returns c = takes_all c.args.areas (edges_in c.args.edges.now) c.args.c c.requires.1 c.args.w.now c.requires.0 c.reach.new.w c.reach.ensures
