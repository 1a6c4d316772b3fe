-- `number_runs` meets its contract. Assumes nothing.
use mathlib.Core.Path.{sym, ◌∙◌}
use Rattle.sorting_runs.specs.NumberLaws.{number_fits}
use Rattle.sorting_runs.proofs.runs.number_runs.Goals as goal

pub returns : goal.returns
returns c =
    let a = c.args in
    let n = c.number_fitting-count in
    number_fits a.by a.letters.now a.lo a.hi a.to a.e a.w.now n.new.w n.result (sym c.counts.ensures ∙ c.if-not-counts.false) n.ensures.0 n.ensures.1 n.ensures.2 n.ensures.3
