-- Document 01: "for n = 1 to the combination limit, all n-element choices of sites in lexicographic order, skipping those
-- that ..". A choice is the list of its places, ascending.
use Rattle.std.specs.Prelude.{ℕ, zero, suc, List, [], ◌∷◌, ◌++◌, map}

-- all n-element choices of the len places from lo on, in lexicographic order: first those with lo, then those without
unfoldable pub choices_of : ℕ → ℕ → ℕ → List (List ℕ)
choices_of zero len lo = [] ∷ []
choices_of (suc n) zero lo = []
choices_of (suc n) (suc len) lo = map (λ (c : List ℕ). lo ∷ c) (choices_of n len (suc lo)) ++ choices_of (suc n) len (suc lo)

-- the choices of n of the first m places, then those of n + 1, and so on: k sizes
unfoldable pub by_size : ℕ → ℕ → ℕ → List (List ℕ)
unfolding choices_of
by_size m n zero = []
by_size m n (suc k) = choices_of n m 0 ++ by_size m (suc n) k
