-- The windows of a table of starts, with a weight for each, and what is written of them.
use Rattle.std.specs.Prelude.{ℕ, zero, suc, ◌+◌, ◌-◌, ◌≤◌, ◌<◌, Bool, ◌&&◌, List, length, get_or, ltb, Some}
use Rattle.enzyme_cuts.specs.Cutting.{Range, range, within}
use Rattle.enzyme_keep.specs.Digests.{record_of}
use Rattle.enzyme_keep.specs.Steps.{digest_room, After, after, decided, unless_full}

-- the starts of m sites, and the end of the last
pub record StartsRise (starts : List ℕ) (m : ℕ) : Type 0 where
  pub some : m < length starts
  pub order : (i j : ℕ) → i ≤ j → j ≤ m → get_or starts i 0 ≤ get_or starts j 0
  pub low : (i : ℕ) → i ≤ m → get_or starts i 0 ≤ 65536

-- the window of missed + 1 sites from site i
abbrev pub window_at : List ℕ → ℕ → ℕ → Range
window_at starts missed i = range (get_or starts i 0) (get_or starts (i + suc missed) 0) missed 0

-- whether it has a length within the limits, and a weight
abbrev pub new_at : List ℕ → (ℕ → ℕ) → ℕ → ℕ → ℕ → ℕ → Bool
new_at starts w mn mx missed i = within mn mx (get_or starts (i + suc missed) 0 - get_or starts i 0) && ltb 0 (w i)

-- the records of the new ones from the sites i, i + 1, .., left in all, each with its weight, where there is room
abbrev pub windows_put : ℕ → ℕ → List ℕ → (ℕ → ℕ) → ℕ → ℕ → ℕ → ℕ → ℕ → ℕ → List ℕ → After
windows_put n p starts w mn mx missed i zero count out = after (Some count) out
windows_put n p starts w mn mx missed i (suc left) count out =
    unless_full (decided (new_at starts w mn mx missed i) (ltb count (digest_room out)) count out (record_of n p (window_at starts missed i) (w i))) (windows_put n p starts w mn mx missed (suc i) left)

-- those of missed + 1, missed + 2, .. of m sites, z sizes in all, with weights for each size
abbrev pub sizes_put : ℕ → ℕ → List ℕ → (ℕ → ℕ → ℕ) → ℕ → ℕ → ℕ → ℕ → ℕ → ℕ → List ℕ → After
sizes_put n p starts w mn mx m missed zero count out = after (Some count) out
sizes_put n p starts w mn mx m missed (suc z) count out = unless_full (windows_put n p starts (w missed) mn mx missed 0 (m - missed) count out) (sizes_put n p starts w mn mx m (suc missed) z)
