-- `distinct_runs` meets its contract. Assumes nothing.
use Rattle.protein_groups_runs.specs.MetaLaws.{taken_things, distinct_spread}
use Rattle.protein_groups_runs.proofs.runs.distinct_runs.Goals as goal

pub runs_of-requires : goal.runs_of-requires
runs_of-requires c = let a = c.args in let k = c.takers-t in taken_things a.w.now k.new.w a.plan k.result k.auto.w c.requires k.ensures

pub returns : goal.returns
returns c =
    let a = c.args in let k = c.takers-t in let d = c.runs_of in
    distinct_spread a.w.now k.new.w a.plan k.result k.auto.w c.requires k.ensures d.new.w d.result.entries d.result.count d.ensures
