-- `line_with` meets its contract. Assumes nothing.
use Rattle.report_lines.specs.ReportingLaws.{own-table}
use Rattle.report_lines.proofs.reporting.line_with.Goals as goal

pub line_over-requires : goal.line_over-requires
line_over-requires g c = own-table c.args.c g.row.W c.requires.0 c.requires.1 c.requires.2
