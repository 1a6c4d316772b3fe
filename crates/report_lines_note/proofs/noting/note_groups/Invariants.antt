-- `note_groups` meets its contract. Assumes nothing.
use Prim.Native.Nat.{ℕ, ◌<◌}
use mathlib.Core.Path.{◌≡◌}
use mathlib.Core.Bool.{cond}
use mathlib.Core.List.{List}
use lib.ListN.{get_or}
use Rattle.lists.specs.Lists.{occurs}
use Rattle.report_lines_note.specs.Noting.{first_members, Flagged}
use Rattle.report_lines_note.proofs.noting.note_groups.Given as goal

abbrev pub invariant-loop-i : goal.invariant-loop-i
invariant-loop-i l = (list : List ℕ) → ((p : ℕ) → p < l.c → get_or l.initial.w p 0 ≡ cond (occurs p list) 1 0) → Flagged (first_members l.members l.i) l.marks list l.decoy l.initial.w l.w l.c l.m
