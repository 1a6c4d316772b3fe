-- Names in a row, and lists joined by a number.
use Rattle.std.specs.Prelude.{ℕ, ◌+◌, ◌*◌, cond, List, [], ◌∷◌, ◌++◌, eqb}
use Rattle.std.proofs.Math.Seq.{slice}

-- the x-th name of 64 bytes
abbrev pub name_of : List ℕ → ℕ → List ℕ
name_of letters x = slice (x * 64) (x * 64 + 64) letters

-- a name's bytes: those before the first zero
abbrev pub until_zero : List ℕ → List ℕ
until_zero [] = []
until_zero (b ∷ bs) = let rest = until_zero bs in cond (eqb b 0) [] (b ∷ rest)

-- lists joined by a number
abbrev pub join_after : ℕ → List (List ℕ) → List ℕ
join_after by [] = []
join_after by (l ∷ ls) = by ∷ (l ++ join_after by ls)

abbrev pub join : ℕ → List (List ℕ) → List ℕ
join by [] = []
join by (l ∷ ls) = l ++ join_after by ls
