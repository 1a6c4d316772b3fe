-- Ranked windows are ready to be listed, with the sizes of their classes as weights. Assumes nothing.
use Rattle.std.specs.Prelude.{ℕ, suc, ◌-◌, ◌≤◌, ◌≡◌, List, length}
use Rattle.std.proofs.Common.{arith}
use Rattle.enzyme_cuts.specs.declared.kinds.Knife.{Knife}
use Rattle.enzyme_windows.specs.Pieces.{pieces}
use Rattle.enzyme_windows.specs.Weights.{class_weight}
use Rattle.enzyme_weights.specs.Weights.{weight_in}
use Rattle.enzyme_levels.specs.Levels.{LevelRanked}
use Rattle.enzyme_levels.specs.WeightLaws.{level_weighs}
use Rattle.enzyme_picks.specs.Picks.{StartsRise, windows_put}
use Rattle.enzyme_picks.specs.PickLaws.{put-alike, starts_rise}

pub level_listed : (ts : List (List ℕ)) (s starts order runs name rank share : List ℕ) (x g m : ℕ) → LevelRanked ts s starts order runs name rank share (suc x) g m → (n p mn mx count : ℕ) (out : List ℕ)
    → windows_put n p starts (weight_in order runs rank share g (suc x)) mn mx x 0 (m - x) count out ≡ windows_put n p starts (class_weight ts (suc x)) mn mx x 0 (m - x) count out
level_listed ts s starts order runs name rank share x g m lr n p mn mx count out =
    let e = lr.placed.many in
    put-alike n p starts (weight_in order runs rank share g (suc x)) (class_weight ts (suc x)) mn mx x (m - x) 0 (λ j l. level_weighs ts s starts order runs name rank share x g m lr j (omega arith)) count out

pub level_ready : (k : Knife) (s starts order runs name rank share : List ℕ) (x g m : ℕ) → LevelRanked (pieces k s) s starts order runs name rank share (suc x) g m
    → length s ≤ 65536 → x ≤ 16 → m ≤ length order → m ≤ length runs → m ≤ length rank → m ≤ length share
    → (x ≤ 16) × (g ≤ 65536) × (g ≤ length order) × (g ≤ length runs) × (m ≤ length rank) × (m ≤ length share) × StartsRise starts m
level_ready k s starts order runs name rank share x g m lr small h a b c d =
    let f = lr.ready.few in
    let l = lr.ready.small in
    (h, omega arith, omega arith, omega arith, c, d, starts_rise k s starts m small lr.placed.room lr.placed.start)
