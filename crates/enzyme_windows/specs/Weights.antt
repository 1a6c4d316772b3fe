-- How many windows of as many sites are equal to the one from a site. Windows that are equal form a class; its first has the whole class as
-- its weight, the others have none.
use Rattle.std.specs.Prelude.{ℕ, zero, suc, ◌+◌, ◌-◌, cond, List, length, drop, leb}
use Rattle.enzyme_windows.specs.Shared.{in_common, shared_sites}

-- the sum of g over the first m
abbrev pub sum_to : (ℕ → ℕ) → ℕ → ℕ
sum_to g zero = 0
sum_to g (suc m) = g m + sum_to g m

-- 1 where the windows of n sites from i and from j are equal
abbrev pub one_if_same : List (List ℕ) → ℕ → ℕ → ℕ → ℕ
one_if_same ts n i j = cond (leb n (in_common (drop i ts) (drop j ts))) 1 0

-- how many windows there are of n sites
abbrev pub windows_there : List (List ℕ) → ℕ → ℕ
windows_there ts n = suc (length ts) - n

-- how many windows of n sites are equal to the one from site i
abbrev pub same_count : List (List ℕ) → ℕ → ℕ → ℕ
same_count ts n i = sum_to (one_if_same ts n i) (windows_there ts n)

-- 0 for a window that an earlier site starts as well, else how many are equal to it
abbrev pub class_weight : List (List ℕ) → ℕ → ℕ → ℕ
class_weight ts n i = cond (leb n (shared_sites ts i)) 0 (same_count ts n i)
