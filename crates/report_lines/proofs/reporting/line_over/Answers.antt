-- `line_over` meets its contract: a refusal, or the line. Assumes nothing.
use mathlib.Core.Path.{◌≡◌, sym, ◌∙◌}
use Rattle.std.proofs.lemmas.Result.{err_from_is_err_and}
use Rattle.report_lines_tests.specs.Testing.{contents}
use Rattle.report_lines_tests.specs.TestingLaws.{contents-told, fair_good}
use Rattle.report_lines.specs.ReportingLaws.{names-told, good_given, good_tag}
use Rattle.report_lines.proofs.reporting.line_over.Goals.{After-lists_tested}
use Rattle.report_lines.proofs.reporting.line_over.Goals as goal

-- what was found is what the contents tell
told : (c : After-lists_tested) → let a = c.args.asked.now in c.lists_tested.result ≡ contents a.names.now a.members.now a.marks.now a.list.now a.tag.now
told c =
    let a = c.args.asked.now in
    contents-told a.names.now a.members.now a.marks.now a.list.now a.tag.now
    (names-told c.requires.0 c.requires.1 c.names_tested_in-named.ensures).0 c.name_count-proteins.ensures c.lists_tested.ensures

pub line_laid-requires : goal.line_laid-requires
line_laid-requires c =
    let t = names-told c.requires.0 c.requires.1 c.names_tested_in-named.ensures in
    let good = fair_good c.args.asked.now.tag.now c.requires.0 (sym (told (goal.at.line_laid-requires c).After-lists_tested) ∙ c.in_ok-lists_tested.was) in
    (good_given good c.requires.1 t.1, good_tag good)

pub returns-in_err-lists_tested : goal.returns-in_err-lists_tested
returns-in_err-lists_tested c =
    let p = err_from_is_err_and c.from_residual.result c.from_residual.ensures.1 in
    rw (p.1, p.2, sym (told (goal.at.returns-in_err-lists_tested c).After-lists_tested) ∙ c.in_err-lists_tested.was)

pub returns : goal.returns
returns c = rw (sym (told (goal.at.returns c).After-lists_tested) ∙ c.in_ok-lists_tested.was) c.line_laid.ensures
