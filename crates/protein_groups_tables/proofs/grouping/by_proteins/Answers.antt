-- `by_proteins` meets its contract. Assumes nothing.
use Rattle.protein_groups_tables.specs.ProteinLaws.{row_things, by-proteins}
use Rattle.protein_groups_tables.proofs.grouping.by_proteins.Goals as goal

pub runs_of-requires : goal.runs_of-requires
runs_of-requires c =
    let a = c.args in let d = c.sort_values in let p = c.count_from in
    rw c.wide-size.ensures.0 (row_things a.w.now d.new.w p.new.w a.plan d.auto.w p.auto.w c.requires d.ensures p.ensures)

pub returns : goal.returns
returns c =
    let a = c.args in let d = c.sort_values in let p = c.count_from in let r = c.runs_of in
    by-proteins a.w.now d.new.w p.new.w a.plan d.auto.w p.auto.w c.requires d.ensures p.ensures r.new.w r.result.entries r.result.count (rw c.wide-size.ensures.0 at r.ensures)
