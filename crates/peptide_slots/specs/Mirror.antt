-- Document 01: reversal "reverses the inner letters .. and residue ids"; "places past the length 0".
use Rattle.std.specs.Prelude.{ℕ, Bool, true, ◌&&◌, List, [], ◌∷◌, ◌++◌, take, drop, eqb}
use Rattle.letters.specs.Reversal.{reversed}

-- of the first n places all but the first and the last in reverse order, the others as they are
unfoldable pub mirror : ℕ → List ℕ → List ℕ
mirror n xs = reversed (take n xs) ++ drop n xs

unfoldable pub all_zero : List ℕ → Bool
all_zero [] = true
all_zero (b ∷ bs) = eqb b 0 && all_zero bs
