-- `prepare` meets its contract. Assumes nothing.
use Rattle.cover_levels.specs.PrepareLaws.{layout_kept}
use Rattle.cover_levels.proofs.preparing.prepare.Goals as goal

pub order-requires : goal.order-requires
order-requires c = let l = c.lists in (layout_kept c.args.w.now _ l.auto.w c.requires.0, c.requires.1, l.ensures)
