-- The code of a site. No answer depends on how it is made, only on this: it is made of the site's letters alone.
use Rattle.std.specs.Prelude.{ℕ, ◌+◌, ◌-◌, ◌*◌, ◌/◌, ◌%◌, cond, List, ltb, length}
use Rattle.records.specs.Le.{number_at}
use Rattle.enzyme_keys.specs.Keys.{letters_at}

-- the last four letters as a number; 0 where there are no more than four
abbrev pub last_four : List ℕ → ℕ
last_four site = cond (ltb 4 (length site)) (number_at 4 site (length site - 4)) 0

-- the first letters, the last ones and how many there are, in one number
abbrev pub mixed : ℕ → ℕ → ℕ → ℕ
mixed first last n = first * 1640531527 + last * 1597334677 + n % 65536 * 3266489917

-- fewer codes for a smaller table
abbrev pub folded : ℕ → ℕ → ℕ
folded size code = cond (ltb size 16384) (code / 32) (cond (ltb size 65536) (code / 4) code)

-- a site's code, for a table of a size
unfoldable pub code_of : ℕ → List ℕ → ℕ
code_of size site = folded size (mixed (number_at 4 site 0) (last_four site) (length site) / 1048576 % 65536)

-- that of site z
abbrev pub code_at : ℕ → List ℕ → List ℕ → ℕ → ℕ
code_at size s starts z = code_of size (letters_at s starts z)
