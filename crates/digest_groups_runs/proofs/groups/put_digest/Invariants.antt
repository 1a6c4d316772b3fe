-- `put_digest` meets its contract: what is still to be stored from i on gives the whole digest. Assumes nothing.
use Rattle.std.specs.Prelude.{◌≡◌, ◌+◌, drop}
use Rattle.std.proofs.lemmas.List.Edits.{sets}
use Rattle.digest_groups_runs.proofs.groups.put_digest.Given as goal

abbrev pub invariant-loop-i : goal.invariant-loop-i
invariant-loop-i l = sets l.out (l.k + l.i) (drop l.i l.digest) ≡ sets l.initial.out l.k l.digest
