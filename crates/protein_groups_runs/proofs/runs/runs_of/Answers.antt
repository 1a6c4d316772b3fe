-- `runs_of` meets its contract. Assumes nothing.
use Rattle.protein_groups_runs.specs.ThingLaws.{spreadable, ran}
use Rattle.protein_groups_runs.proofs.runs.runs_of.Goals as goal

pub spread_runs-entries-requires : goal.spread_runs-entries-requires
spread_runs-entries-requires c = let a = c.args in let d = c.order_runs-count in spreadable a.w.now d.new.w a.plan a.t d.result d.auto.w c.requires d.ensures

pub returns : goal.returns
returns c =
    let a = c.args in let d = c.order_runs-count in let s = c.spread_runs-entries in
    ran a.w.now d.new.w a.plan a.t d.result d.auto.w c.requires d.ensures s.new.w s.result s.auto.w s.ensures
