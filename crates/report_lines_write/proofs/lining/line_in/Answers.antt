-- `line_in` meets its contract. Assumes nothing.
use Rattle.report_lines_write.specs.OrderLaws.{lined-fits, lined-written}
use Rattle.report_lines_write.proofs.lining.line_in.Goals as goal

pub write_line-requires : goal.write_line-requires
write_line-requires c = lined-fits c.order-count.ensures c.requires

pub returns : goal.returns
returns c =
    let l = c.write_line in
    lined-written c.order-count.ensures c.args.out.now l.new.out l.result.bytes l.result.groups l.ensures
