-- `run` meets its contract. Assumes nothing.
use Rattle.cover_levels.specs.PrepareLaws.{layout_of}
use Rattle.cover_walk.proofs.running.run.Goals as goal

pub prepare-requires : goal.prepare-requires
prepare-requires c = (layout_of c.args.groups c.args.metas c.args.edges.now.count c.args.w.now c.requires.1 c.requires.2 c.requires.3 c.requires.4, c.requires.0)
