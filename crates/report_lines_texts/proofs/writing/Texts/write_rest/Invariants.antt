-- `write_rest` meets its contract: the texts from i on are still to come. Assumes nothing.
use Rattle.sorting_texts.specs.Text.{joined_text}
use Rattle.report_lines_texts.specs.WriteLaws.{Coming, after_from}
use Rattle.report_lines_texts.proofs.writing.Texts.write_rest.Given as goal

abbrev pub invariant-loop-i : goal.invariant-loop-i
invariant-loop-i l = Coming l.initial.out l.at (after_from (joined_text l.self.names.now l.self.keys.now) l.starts 1) l.out l.k (after_from (joined_text l.self.names.now l.self.keys.now) l.starts l.i)
