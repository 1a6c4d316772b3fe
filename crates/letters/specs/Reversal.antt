-- Document 01: a decoy's letters are "the range's, all but first and last reversed". Small letters read as capitals (document 02,
-- [2]), and what is written as letters is capitals.
use Rattle.std.specs.Prelude.{ℕ, ◌-◌, Bool, cond, List, [], ◌∷◌, ◌++◌, reverse, length, take, drop}
use Rattle.letters.specs.Letters.{capitals}

-- all but first and last reversed
abbrev pub reversed : List ℕ → List ℕ
reversed [] = []
reversed (b ∷ bs) = let k = length bs - 1 in b ∷ (reverse (take k bs) ++ drop k bs)

-- the letters of a range, of a decoy's reversed
abbrev pub letters_of : Bool → List ℕ → List ℕ
letters_of decoy part = capitals (cond decoy (reversed part) part)
