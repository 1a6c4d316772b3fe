-- `gather_runs` meets its contract: what is still to come gives all. Assumes nothing.
use Prim.Native.Nat.{◌-◌}
use Rattle.digest_groups_runs.specs.Turns.{RunsAhead}
use Rattle.digest_groups_runs.proofs.groups.gather_runs.Given as goal

abbrev pub invariant-loop-lo : goal.invariant-loop-lo
invariant-loop-lo l = RunsAhead l.names l.letters l.digests l.n l.initial.w l.initial.groups l.lo l.g l.w l.groups

abbrev pub decreases-loop-lo : goal.decreases-loop-lo
decreases-loop-lo l = l.n - l.lo
