-- The first of n things that has the text of an earlier one.
use Rattle.std.specs.Prelude.{ℕ, Bool, List, ltb}
use Rattle.lists.specs.Lists.{same}
use Rattle.records.specs.Search.{seek}

-- whether one before i has i's text
abbrev pub repeats : (ℕ → List ℕ) → ℕ → Bool
repeats text i = ltb (seek (λ j. same (text j) (text i)) 0 i) i

-- the first that repeats, or n where none does
abbrev pub first_repeat : (ℕ → List ℕ) → ℕ → ℕ
first_repeat text n = seek (repeats text) 0 n
