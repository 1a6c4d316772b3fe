-- `tested` meets its contract. Assumes nothing.
use mathlib.Core.Path.{ap, ◌∙◌}
use mathlib.Core.Bool.{false}
use Rattle.records.specs.Outcome.{Outcome}
use Rattle.report_lines.specs.ReportingLaws.{tests_of, tests_told}
use Rattle.report_lines.proofs.reporting.tested.Goals as goal
use Rattle.report_lines.specs.Reporting.{Reported}

pub returns : goal.returns
returns c =
    let a = c.args in
    c.tests_of.ensures
    ∙ ap (λ (o : Outcome Reported). tests_of o.answer) c.report_line-answer.ensures
    ∙ tests_told a.names.now a.members.now a.marks.now a.list.now a.tag.now false false _
