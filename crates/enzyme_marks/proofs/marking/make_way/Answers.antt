-- `make_way` meets its contract. Assumes nothing.
use Rattle.std.proofs.Common.{◌≡◌, ◌+◌, ◌-◌, ◌≤◌, ◌<◌, ⊎_elim, arith}
use Rattle.enzyme_marks.proofs.marking.make_way.Goals as goal

pub returns : goal.returns
returns c =
    let low = c.args.low in
    let high = c.args.high in
    let moved = c.copy_within.ensures.by_index in
    record {
      long = c.copy_within.ensures.len;
      rest = λ x h. ⊎_elim (λ (l : x < low). moved.1 x 0 (omega arith)) (λ (g : high + 3 ≤ x). moved.2 x 0 (omega arith)) h;
      on = λ x h l. let e : low + (x + 3 - (low + 3)) ≡ x = omega arith in rw e at (moved.0 (x + 3) 0 (omega arith) (omega arith));
    }
