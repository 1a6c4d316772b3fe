-- What sifting leaves: all sites that have the letters of another, and some that may.
use Rattle.std.specs.Prelude.{ℕ, ◌+◌, ◌≤◌, ◌<◌, ◌≡◌, Bool, true, cond, List, ltb, leb, get_or, set}
use Rattle.enzyme_keys.specs.Keys.{letters_at}
use Rattle.enzyme_rows.specs.Steps.{AmongFirst, FirstDiffer}

-- of m sites the first g in order; each that has the letters of another is one of them
pub record Sifted (s starts order : List ℕ) (m g : ℕ) : Type 0 where
  pub few : g ≤ m
  pub apart : FirstDiffer order g
  pub inside : (z : ℕ) → AmongFirst order g z → z < m
  pub each : (z v : ℕ) → z < m → v < m → (z ≡ v → ⊥) → letters_at s starts z ≡ letters_at s starts v → AmongFirst order g z

-- one more, up to 2
abbrev pub one_more : ℕ → ℕ
one_more n = cond (ltb n 2) (n + 1) n

-- the table with one more for a code; a code past its end counts as seen twice
abbrev pub raised : List ℕ → ℕ → List ℕ
raised seen code = set seen code (one_more (get_or seen code 2))

-- the codes of the first i sites are written, and each was seen at least as often as it stands there, up to 2
pub record CodesSeen (code : ℕ → ℕ) (codes seen : List ℕ) (i : ℕ) : Type 0 where
  pub coded : (z : ℕ) → z < i → get_or codes z 0 ≡ code z
  pub once : (z : ℕ) → z < i → 1 ≤ get_or seen (code z) 2
  pub twice : (z v : ℕ) → z < v → v < i → code z ≡ code v → 2 ≤ get_or seen (code v) 2

-- whether a code was seen twice
abbrev pub seen_twice : List ℕ → ℕ → Bool
seen_twice seen code = leb 2 (get_or seen code 2)

-- the first k in order are of the first i sites, rising, and each whose code was seen twice is one of them
pub record RepeatsPicked (codes seen order : List ℕ) (i k : ℕ) : Type 0 where
  pub few : k ≤ i
  pub inside : (p : ℕ) → p < k → get_or order p 0 < i
  pub each : (z : ℕ) → z < i → seen_twice seen (get_or codes z 0) ≡ true → AmongFirst order k z
  pub rises : (p q : ℕ) → p < q → q < k → get_or order p 0 < get_or order q 0
