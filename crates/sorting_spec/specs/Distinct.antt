-- The distinct of some lists of numbers, in order, and what passes a test.
use Rattle.std.specs.Prelude.{ℕ, cond, List, [], ◌∷◌}
use Rattle.lists.specs.Lists.{same}
use Rattle.sorting_spec.specs.Sort.{sorted}
use Rattle.sorting_spec.specs.Lex.{lex_le}

-- of a sorted list each once: what equals the one before it is left out
abbrev pub once_after : List ℕ → List (List ℕ) → List (List ℕ)
once_after l [] = []
once_after l (m ∷ ms) = let rest = once_after m ms in cond (same m l) rest (m ∷ rest)

abbrev pub once : List (List ℕ) → List (List ℕ)
once [] = []
once (l ∷ ls) = l ∷ once_after l ls

-- the distinct lists in lexicographic order
abbrev pub distinct : List (List ℕ) → List (List ℕ)
distinct ls = once (sorted lex_le ls)
