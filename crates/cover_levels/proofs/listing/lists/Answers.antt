-- `lists` meets its contract. Assumes nothing.
use Rattle.cover_levels.specs.PrepareLaws.{Layout, layout_kept, layout_small, group_sortable, meta_sortable, lists-made}
use Rattle.cover_levels.proofs.listing.lists.Goals.{After-gather}
use Rattle.cover_levels.proofs.listing.lists.Goals as goal

-- the layout, once the edges are gathered
layout : (c : After-gather) → Layout c.args.areas c.args.edges.now.count c.gather.new.w
layout c = layout_kept c.args.w.now _ c.gather.auto.w c.requires.0

pub sort_by_keys-requires : goal.sort_by_keys-requires
sort_by_keys-requires c = group_sortable (layout (goal.at.sort_by_keys-requires c).After-gather) c.requires.1 c.gather.ensures

pub sort_by_keys-requires-2 : goal.sort_by_keys-requires-2
sort_by_keys-requires-2 c = let x = c.sort_by_keys in meta_sortable (layout (goal.at.sort_by_keys-requires-2 c).After-gather) c.requires.1 c.gather.ensures x.ensures x.auto.w

pub returns : goal.returns
returns c =
    let x = c.sort_by_keys in
    let y = c.sort_by_keys-2 in
    lists-made (layout (goal.at.returns c).After-gather) c.requires.1 c.gather.ensures x.ensures x.auto.w y.ensures y.auto.w

pub overflow_add-by_group : goal.overflow_add-by_group
overflow_add-by_group c = record { fits = (layout_small c.requires.0).0 }

pub overflow_add-by_meta : goal.overflow_add-by_meta
overflow_add-by_meta c = record { fits = (layout_small c.requires.0).0 }
