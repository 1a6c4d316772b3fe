-- What the search for a name that stands twice makes of a lent table. The contract of that part cites this; no entry's does.
use Rattle.std.specs.Prelude.{ℕ, ◌+◌, List, ◌++◌, drop, replicate, Some, None, Ok, Err}
use Rattle.sorting_repeats.specs.Repeating.{Repeated}

-- a table of which two numbers a name were used
abbrev pub cleared : ℕ → List ℕ → List ℕ
cleared n tab = replicate (n + n) 0 ++ drop (n + n) tab

-- the place that a sort found among n names
abbrev pub repeat_place : ℕ → Repeated → ℕ
repeat_place n (Ok (Some i)) = i
repeat_place n (Ok None) = n
repeat_place n (Err _) = n
