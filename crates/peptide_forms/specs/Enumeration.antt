-- Document 01: "When a choice passes and the number of forms has reached the cap, both loops are left at once."
use Rattle.std.specs.Prelude.{ℕ, suc, Bool, cond, not, ◌&&◌, List, [], ◌∷◌, leb, eqb}

-- forms a list may have
abbrev pub most_forms : ℕ
most_forms = 1048576

-- no cap: all ones
abbrev pub no_cap : ℕ
no_cap = 4294967295

-- the number of forms has reached the cap
abbrev pub cap_reached : ℕ → ℕ → Bool
cap_reached cap k = not (eqb cap no_cap) && leb cap k

-- k forms are there: of the choices that pass, those that are taken until the cap is reached
unfoldable pub up_to_cap : ℕ → ℕ → List (List ℕ) → List (List ℕ)
up_to_cap cap k [] = []
up_to_cap cap k (c ∷ cs) = let on = c ∷ up_to_cap cap (suc k) cs in cond (cap_reached cap k) [] on
