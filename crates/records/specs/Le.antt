-- Document 01, "Sizes and records": numbers are little-endian.
use Rattle.std.specs.Prelude.{ℕ, zero, suc, ◌+◌, ◌*◌, ◌/◌, ◌%◌, List, [], ◌∷◌, take, drop}

-- the w low base-256 digits of n, least first
abbrev pub le : ℕ → ℕ → List ℕ
le zero n = []
le (suc w) n = n % 256 ∷ le w (n / 256)

-- the number that bytes stand for, least first
abbrev pub value : List ℕ → ℕ
value [] = 0
value (b ∷ bs) = b + 256 * value bs

-- the number in the w bytes from a place on; what lies past the end counts as 0
unfoldable pub number_at : ℕ → List ℕ → ℕ → ℕ
number_at w s at = value (take w (drop at s))
