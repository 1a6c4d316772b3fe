-- `put_list` meets its contract: what is still to be stored from i on gives the whole list. Assumes nothing.
use Rattle.std.specs.Prelude.{◌≡◌, drop}
use Rattle.std.proofs.lemmas.List.Edits.{sets}
use Rattle.digest_groups_tables.proofs.grouping.put_list.Given as goal

abbrev pub invariant-loop-i : goal.invariant-loop-i
invariant-loop-i l = sets l.out l.i (drop l.i l.list) ≡ sets l.initial.out 0 l.list
