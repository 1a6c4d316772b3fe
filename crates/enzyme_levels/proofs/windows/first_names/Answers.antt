-- `first_names` meets its contract. Assumes nothing.
use Rattle.enzyme_keys.specs.Keys.{letters_at}
use Rattle.enzyme_runs.specs.StepLaws.{one_name}
use Rattle.enzyme_levels.specs.ReadyLaws.{for_naming}
use Rattle.enzyme_levels.proofs.windows.first_names.Goals as goal

pub name_runs-requires : goal.name_runs-requires
name_runs-requires c = let a = c.args in
    let p = c.requires in
    let u = c.rank_sites in
    for_naming (letters_at a.letters.now a.starts.now) a.letters.now a.starts.now a.order.now u.new.order a.other.now u.new.other a.g a.m
    p.0 u.ensures.arranged u.auto.order p.2 u.auto.other p.3 a.name.now p.5 u.ensures.runs

pub returns : goal.returns
returns c = let a = c.args in
    let u = c.rank_sites in
    let v = c.name_runs in
    let x = u.new.order in
    let r = u.new.other in
    (u.ensures, one_name (letters_at a.letters.now a.starts.now) a.order.now x r a.name.now v.new.name a.g u.ensures.arranged u.ensures.runs v.ensures)
