-- `take_proteins` meets its contract: the numbers before i are replaced. Assumes nothing.
use Prim.Native.Nat.{ℕ}
use Rattle.enzyme_keep.specs.Digests.{protein_in}
use Rattle.digest_groups_spec.specs.DigestGroups.{digest_at}
use Rattle.digest_groups_runs.specs.Turns.{Replaced}
use Rattle.digest_groups_runs.proofs.groups.take_proteins.Given as goal

abbrev pub invariant-loop-i : goal.invariant-loop-i
invariant-loop-i l = Replaced (λ (x : ℕ). protein_in (digest_at l.digests x)) l.initial.w l.w l.lo l.i
