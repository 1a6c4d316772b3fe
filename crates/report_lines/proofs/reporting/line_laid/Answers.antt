-- `line_laid` meets its contract. Assumes nothing.
use Rattle.protein_groups_members.specs.Members.{members_in}
use Rattle.report_lines_write.specs.LineLaws.{stretched_laid}
use Rattle.report_lines.specs.ReportingLaws.{line-outcome}
use Rattle.report_lines.proofs.reporting.line_laid.Goals as goal

pub line_in-line-requires : goal.line_in-line-requires
line_in-line-requires c =
    let p = c.requires in
    let l = c.lay_out in
    let a = c.args in
    stretched_laid a.asked.now.names.now (members_in a.asked.now.members.now) a.asked.now.marks.now a.asked.now.list.now a.asked.now.decoy a.asked.now.tag.now a.asked.now.generated l.new.w a.c l.ensures p.0.small p.1

pub returns : goal.returns
returns c =
    let p = c.requires in
    let la = c.lay_out in
    let a = c.args in
    let l = c.line_in-line in
    line-outcome a.asked.now.names.now a.asked.now.members.now a.asked.now.marks.now a.asked.now.list.now a.asked.now.decoy a.asked.now.tag.now a.asked.now.generated la.new.w a.c la.ensures p.0.small p.1 a.out.now l.new.out l.result.bytes l.result.groups c.answer.result l.ensures c.answer.ensures
