-- The sites of rules that may be used at all. A rule whose limit is 0 is in no choice that passes.
use Rattle.std.specs.Prelude.{ℕ, Bool, not, List, [], ◌∷◌, ◌++◌, eqb}
use Rattle.peptide_slots.specs.Sites.{if_hit, limit_at, rule_of}

-- a site of a rule whose limit is 0
abbrev pub idle : List ℕ → ℕ → Bool
idle rules site = eqb (limit_at rules (rule_of site)) 0

-- the other sites, in order
unfoldable pub used : List ℕ → List ℕ → List ℕ
unfolding if_hit
used rules [] = []
used rules (site ∷ sites) = if_hit (not (idle rules site)) site ++ used rules sites
