-- `put_record` meets its contract: what is still to be stored from i on gives the whole text. Assumes nothing.
use Rattle.std.specs.Prelude.{◌≡◌, drop}
use Rattle.std.proofs.lemmas.List.Edits.{sets}
use Rattle.fasta.proofs.naming.put_record.Given as goal

abbrev pub invariant-loop-i : goal.invariant-loop-i
invariant-loop-i l = sets l.out l.i (drop l.i l.text) ≡ sets l.initial.out 0 l.text
