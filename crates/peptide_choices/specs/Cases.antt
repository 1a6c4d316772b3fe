-- Worked cases of the counter. Of each answer its choice is shown, or nothing where none is left.
use Rattle.std.specs.Prelude.{ℕ, refl, Some, None, List, [], ◌∷◌, ◌++◌, replicate}
use Rattle.records.specs.Cases.{Case, Hold}
use Rattle.peptide_choices.specs.Choices.{choices_of}
use Rattle.peptide_choices.specs.Stepped.{Stepped}
use Rattle.peptide_choices.specs.Steps.{follower, stepped_to, successor, word}

abbrev shown : Stepped → List (List ℕ)
shown None = []
shown (Some c) = word c ∷ []

-- the successor of a choice of two of m sites; 9 stands past its places
abbrev stepping : ℕ → List ℕ → List (List ℕ) → Case
stepping m c want = record { got = shown (successor (record { at = c ++ replicate 6 9; n = 2; m = m })); want = want }

abbrev pub table : List Case
table =
    -- two of four sites, from the first to the last
    stepping 4 (0 ∷ 1 ∷ []) ((0 ∷ 2 ∷ []) ∷ [])
    ∷ stepping 4 (0 ∷ 2 ∷ []) ((0 ∷ 3 ∷ []) ∷ [])
    -- the first place moves, and the second follows it
    ∷ stepping 4 (0 ∷ 3 ∷ []) ((1 ∷ 2 ∷ []) ∷ [])
    -- the last choice: none is left
    ∷ stepping 4 (2 ∷ 3 ∷ []) []
    -- with one site more it is not the last
    ∷ stepping 5 (2 ∷ 3 ∷ []) ((2 ∷ 4 ∷ []) ∷ [])
    -- no choices: places that do not ascend, and a place that is no site
    ∷ stepping 4 (1 ∷ 1 ∷ []) []
    ∷ stepping 4 (0 ∷ 4 ∷ []) []
    ∷ []

pub cases : Hold table
unfolding successor stepped_to follower choices_of
cases = refl
