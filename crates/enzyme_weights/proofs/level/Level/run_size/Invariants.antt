-- `run_size` meets its contract: what is counted and the places ahead give the whole. Assumes nothing.
use mathlib.Core.Path.{◌≡◌}
use Prim.Native.Nat.{◌+◌, ◌-◌, ◌≤◌}
use Rattle.enzyme_weights.specs.Weights.{run_from}
use Rattle.enzyme_weights.proofs.level.Level.run_size.Given as goal

abbrev pub invariant-loop-q : goal.invariant-loop-q
invariant-loop-q l = (l.count ≤ l.q) × (l.count + run_from l.self.runs.now l.p l.q (l.self.g - l.q) ≡ run_from l.self.runs.now l.p l.p (l.self.g - l.p))
