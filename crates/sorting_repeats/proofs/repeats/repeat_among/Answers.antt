-- `repeat_among` meets its contract. Assumes nothing.
use Prim.Native.Nat.{ℕ, ◌+◌}
use mathlib.Core.Path.{ap, ◌∙◌}
use mathlib.Core.List.{List, ◌++◌}
use native.Mathlib.Omega.{arith}
use lib.ListN.{replicate}
use Rattle.sorting_repeats.specs.LeastLaws.{repeated, repeated_rest, front_cleared}
use Rattle.sorting_repeats.proofs.repeats.repeat_among.Goals as goal

pub returns : goal.returns
returns c =
    let a = c.args in
    let up = c.count_up in
    let so = c.sort_range in
    let n = a.n in
    let names = a.names.now in (
      repeated names up.new.w so.new.w n c.least_repeat-r.result up.ensures.0 so.ensures c.least_repeat-r.ensures,
      front_cleared (n + n) so.new.w c.clear.new.w (omega (arith, so.auto.w, up.auto.w, c.requires)) c.clear.ensures
          ∙ ap (λ (x : List ℕ). replicate (n + n) 0 ++ x) (repeated_rest names a.w.now up.new.w so.new.w n up.auto.w so.auto.w up.ensures.1 so.ensures),
    )
