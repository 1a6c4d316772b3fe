-- `copy` meets its contract. Assumes nothing.
use Prim.Native.Nat.{◌+◌, ◌-◌, ◌<◌, ◌≤◌}
use mathlib.Core.Path.{◌≡◌}
use native.Mathlib.Omega.{arith}
use Rattle.std.proofs.Common.{⊎_elim}
use Rattle.report_lines_write.proofs.copying.copy.Goals as goal

pub returns : goal.returns
returns c =
    let a = c.args in
    let h = c.copy_within.ensures in
    record {
      as_long = h.len;
      copied = λ i q. let e : a.from + (a.to + i - a.to) ≡ a.from + i = omega arith in rw e at (h.by_index.0 (a.to + i) 0 (omega arith) (omega arith));
      rest = λ i o. ⊎_elim (λ (q : i < a.to). h.by_index.1 i 0 q) (λ (q : a.to + a.n ≤ i). h.by_index.2 i 0 (omega arith)) o;
    }
