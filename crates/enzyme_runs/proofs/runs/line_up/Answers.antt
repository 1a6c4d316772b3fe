-- `line_up` meets its contract. Assumes nothing.
use native.Mathlib.Omega.{arith}
use Rattle.enzyme_keys.specs.Keys.{key_of}
use Rattle.enzyme_runs.specs.SortedLaws.{sited_sites, sort_arranged, sited_arranged}
use Rattle.enzyme_runs.proofs.runs.line_up.Goals as goal

pub sort-requires : goal.sort-requires
sort-requires c = let a = c.args in
    let p = c.requires in
    (p.0, p.1, sited_sites a.by.now.letters.now a.by.now.starts.now a.order.now a.g p.0 p.4)

pub number_runs-requires : goal.number_runs-requires
number_runs-requires c = let a = c.args in
    let p = c.requires in
    let t = c.sort in
    let x = t.new.order in
    let ar = sort_arranged a.by.now.key a.by.now.letters.now a.by.now.starts.now a.by.now.name.now a.by.now.rank.now a.order.now x a.g p.0 t.auto.order t.ensures.0 p.3 in (
      omega (arith, t.auto.order, p.0),
      omega (arith, t.auto.other, p.1),
      p.2,
      sited_arranged (key_of a.by.now) a.by.now.letters.now a.by.now.starts.now a.order.now x a.g ar p.4,
    )

pub returns : goal.returns
returns c = let a = c.args in
    let p = c.requires in
    let t = c.sort in
    (sort_arranged a.by.now.key a.by.now.letters.now a.by.now.starts.now a.by.now.name.now a.by.now.rank.now a.order.now t.new.order a.g p.0 t.auto.order t.ensures.0 p.3, c.number_runs.ensures)
