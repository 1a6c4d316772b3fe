-- `list_levels` meets its contract: the sizes ahead give the whole, and the next size is ranked. Assumes nothing.
use mathlib.Core.Path.{◌≡◌}
use mathlib.Core.List.{List}
use Prim.Native.Nat.{ℕ, suc, ◌-◌}
use lib.ListN.{length}
use Rattle.enzyme_windows.specs.Weights.{class_weight}
use Rattle.enzyme_levels.specs.Levels.{LevelRanked}
use Rattle.enzyme_picks.specs.Picks.{sizes_put}
use Rattle.enzyme_set.proofs.windows.list_levels.Given as goal

abbrev pub weights : List (List ℕ) → ℕ → ℕ → ℕ
weights ts y i = class_weight ts (suc y) i

abbrev pub invariant-loop-over : goal.invariant-loop-over
invariant-loop-over l =
    (length l.order ≡ length l.initial.order) × (length l.other ≡ length l.initial.other) × (length l.rank ≡ length l.initial.rank) × (length l.share ≡ length l.initial.share) × (length l.out ≡ length l.initial.out)
    × ((ts : List (List ℕ)) → LevelRanked ts l.letters l.starts l.initial.order l.initial.other l.name l.initial.rank l.initial.share 1 l.first l.m
    → LevelRanked ts l.letters l.starts l.order l.other l.name l.rank l.share (suc l.over) l.g l.m
    × (sizes_put l.n l.terms.protein l.starts (weights ts) l.terms.minimum l.terms.maximum l.m l.over (suc l.missed - l.over) l.k l.out
    ≡ sizes_put l.n l.terms.protein l.starts (weights ts) l.terms.minimum l.terms.maximum l.m 0 (suc l.missed) 0 l.initial.out))
