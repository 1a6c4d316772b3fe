-- `list_size` meets its contract: the windows ahead give the whole. Assumes nothing.
use mathlib.Core.Path.{◌≡◌}
use Prim.Native.Nat.{suc, ◌-◌}
use lib.ListN.{length}
use Rattle.enzyme_weights.specs.Weights.{weight_at}
use Rattle.enzyme_picks.specs.Picks.{windows_put}
use Rattle.enzyme_picks.proofs.picking.list_size.Given as goal

abbrev pub invariant-loop-i : goal.invariant-loop-i
invariant-loop-i l = (length l.out ≡ length l.initial.out)
    × (windows_put l.n l.terms.protein l.starts (weight_at l.level (suc l.missed)) l.terms.minimum l.terms.maximum l.missed l.i (l.m - l.missed - l.i) l.k l.out
    ≡ windows_put l.n l.terms.protein l.starts (weight_at l.level (suc l.missed)) l.terms.minimum l.terms.maximum l.missed 0 (l.m - l.missed) l.count l.initial.out)
