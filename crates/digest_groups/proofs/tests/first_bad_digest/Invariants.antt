-- `first_bad_digest` meets its contract. Assumes nothing.
use Prim.Native.Nat.{◌/◌}
use lib.ListN.{length}
use Rattle.records.specs.SeekingLaws.{Seeking}
use Rattle.digest_groups_spec.specs.DigestGrouping.{bad_digest, first_bad_digest}
use Rattle.digest_groups.proofs.tests.first_bad_digest.Given as goal

abbrev pub invariant-loop-i : goal.invariant-loop-i
invariant-loop-i l = Seeking (bad_digest l.bounds l.proteins l.digests) (length l.digests / 20) l.i (first_bad_digest l.bounds l.proteins l.digests)
