-- `is_bad_edge` meets its contract. Assumes nothing.
use Rattle.cover_edges.proofs.range.is_bad_edge.Goals as goal

pub returns : goal.returns
returns c = rw (c.group-group.ensures.0, c.meta-meta.ensures.0)
