-- Short words as numbers, how often each stands, and what a start's number tells.
use Rattle.std.specs.Prelude.{ℕ, zero, suc, ◌+◌, ◌-◌, ◌*◌, ◌%◌, ◌≤◌, ◌<◌, min, ◌≡◌, false, ◌⊎◌, List, length, get_or}
use Rattle.lists.specs.Lists.{same}
use Rattle.enzyme_cuts.specs.Cutting.{site, part}

-- A is 0, Z is 25
abbrev pub digit_of : ℕ → ℕ
digit_of x = min (x - 65) 25

-- the word of q letters at i as a number of base 26
abbrev pub word_at : List ℕ → ℕ → ℕ → ℕ
word_at s i zero = 0
word_at s i (suc q) = 26 * word_at s i q + digit_of (get_or s (i + q) 0)

-- its place in a table of m; words may share one
unfoldable pub word_code : List ℕ → ℕ → ℕ → ℕ → ℕ
word_code s i q m = word_at s i q % m

abbrev pub Zeros : List ℕ → Type 0
Zeros m = (x : ℕ) → get_or m x 0 ≡ 0

-- the starts before n have the numbers of their words, where there are q letters
abbrev pub WordsCoded : List ℕ → ℕ → ℕ → ℕ → List ℕ → Type 0
WordsCoded s q m n far = (j : ℕ) → j < n → j + q ≤ length s → get_or far j 0 ≡ word_code s j q m

-- a number that two words have was counted twice
abbrev pub Twice : List ℕ → ℕ → ℕ → List ℕ → Type 0
Twice s q m count = (j k : ℕ) → j < k → k + q ≤ length s → word_code s j q m ≡ word_code s k q m → get_or count (word_code s j q m) 0 ≡ 2

-- the words at the first n starts were counted
pub record WordsTallied (s : List ℕ) (q m n : ℕ) (far count : List ℕ) : Type 0 where
  pub codes : WordsCoded s q m n far
  pub some : (j : ℕ) → j < n → 0 < get_or count (word_code s j q m) 0
  pub twice : (j k : ℕ) → j < k → k < n → word_code s j q m ≡ word_code s k q m → get_or count (word_code s j q m) 0 ≡ 2

-- x is i + q where the word at i was counted once, or r
abbrev pub EndOfSingle : ℕ → ℕ → ℕ → ℕ → List ℕ → ℕ → ℕ → Type 0
EndOfSingle i q n code count r x = (x ≡ r) ⊎ ((x ≡ i + q) × (i + q ≤ n) × (get_or count code 0 ≡ 1))

-- the stretches of len letters from a and from b differ
abbrev pub Unlike : List ℕ → ℕ → ℕ → ℕ → Type 0
Unlike s a b len = same (part s (site a (a + len))) (part s (site b (b + len))) ≡ false

-- a stretch from a start that is longer than its number stands at no other start
abbrev pub Far : List ℕ → List ℕ → Type 0
Far s f = (a b len : ℕ) → a + len ≤ length s → b + len ≤ length s → (a ≡ b → ⊥) → get_or f a 0 < len → Unlike s a b len

-- a stretch from i or before that ends at r or behind stands at no other start
abbrev pub AloneBeyond : List ℕ → ℕ → ℕ → Type 0
AloneBeyond s i r = (a b len : ℕ) → a ≤ i → r ≤ a + len → a + len ≤ length s → b + len ≤ length s → (a ≡ b → ⊥) → Unlike s a b len

-- the starts from i on have their numbers, those before i the numbers of their words; r is where a stretch has to end
pub record StartsSwept (s : List ℕ) (q m i : ℕ) (far : List ℕ) (r : ℕ) : Type 0 where
  pub codes : WordsCoded s q m i far
  pub above : i < r
  pub low : r ≤ length s + 1
  pub reach : AloneBeyond s i r
  pub done : (a b len : ℕ) → i ≤ a → a + len ≤ length s → b + len ≤ length s → (a ≡ b → ⊥) → get_or far a 0 < len → Unlike s a b len
