-- `write_next` meets its contract. Assumes nothing.
use Rattle.report_lines_texts.specs.WriteLaws.{put_next}
use Rattle.report_lines_texts.proofs.writing.Texts.write_next.Goals as goal

pub returns : goal.returns
returns c = put_next (rw c.put_byte.ensures at c.write_text.ensures)
