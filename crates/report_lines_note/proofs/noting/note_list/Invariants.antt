-- `note_list` meets its contract. Assumes nothing.
use lib.ListN.{take}
use Rattle.report_lines_note.specs.Noting.{ListNoted}
use Rattle.report_lines_note.proofs.noting.note_list.Given as goal

abbrev pub invariant-loop-p : goal.invariant-loop-p
invariant-loop-p l = ListNoted (take l.p-index l.list) l.initial.w l.w l.c
