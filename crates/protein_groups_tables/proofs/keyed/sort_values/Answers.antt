-- `sort_values` meets its contract. Assumes nothing.
use Rattle.protein_groups_tables.specs.PlanLaws.{plan_sortable}
use Rattle.protein_groups_tables.proofs.keyed.sort_values.Goals as goal

pub sort_by_keys-requires : goal.sort_by_keys-requires
sort_by_keys-requires c = let a = c.args in rw c.wide-kinds.ensures.0 (plan_sortable a.w.now a.plan c.requires)

pub returns : goal.returns
returns c = rw c.wide-kinds.ensures.0 at c.sort_by_keys.ensures
