-- Document 01: a letter set is "a number whose bit 0 is A and bit 25 is Z, a type with its constants, its insert and its
-- contains".
-- Document 02, [2]: "Small letters now read as capitals everywhere: enzyme rules, sequences, rule texts, mass lookup, and the test
-- for a repeated peptide." "2 in letters shrinks to bytes that are no ASCII letter."
use Rattle.std.specs.Prelude.{ℕ, ◌-◌, ◌/◌, ◌%◌, ◌^◌, Bool, cond, not, ◌&&◌, List, map, length, ◌==◌, bit_or, nat_le, nat_lt, slice_index}
use Rattle.records.specs.Search.{seek}
use Rattle.letters.specs.declared.letter_set.LetterSet.{LetterSet}

-- A is 65, Z is 90
unfoldable pub is_capital : ℕ → Bool
is_capital b = nat_le 65 b && nat_le b 90

-- a is 97, z is 122
abbrev pub is_small : ℕ → Bool
is_small b = nat_le 97 b && nat_le b 122

-- how a byte reads: a small letter as its capital, which is 32 below it, any other byte as it is
unfoldable pub capital : ℕ → ℕ
capital b = cond (is_small b) (b - 32) b

abbrev pub capitals : List ℕ → List ℕ
capitals s = map capital s

-- a letter, small or not
unfoldable pub is_letter : ℕ → Bool
unfolding capital is_capital
is_letter b = is_capital (capital b)

-- whether bit k of a number is set
unfoldable pub bit_set : ℕ → ℕ → Bool
bit_set m k = m / 2 ^ k % 2 == 1

-- whether a byte is a letter of the set: no byte but a letter is
unfoldable pub has : LetterSet → ℕ → Bool
unfolding is_letter bit_set capital
has s b = is_letter b && bit_set s.mask (capital b - 65)

-- the set with a letter; any other byte changes nothing
unfoldable pub inserted : LetterSet → ℕ → LetterSet
unfolding is_letter capital
inserted s b = record { mask = cond (is_letter b) (bit_or s.mask (2 ^ (capital b - 65))) s.mask }

abbrev pub empty : LetterSet
empty = record { mask = 0 }

abbrev pub all : LetterSet
all = record { mask = 67108863 }

-- no bit above 25
unfoldable pub proper : LetterSet → Bool
proper s = nat_lt s.mask (2 ^ 26)

-- none of the 26 letters from A on is in s and not in t
unfoldable pub subset : LetterSet → LetterSet → Bool
unfolding has seek
subset s t = seek (λ (b : ℕ). has s b && not (has t b)) 65 26 == 91

-- at a place stands no letter
abbrev pub no_letter : List ℕ → ℕ → Bool
no_letter s i = not (is_letter (slice_index s i))

-- the index of the first byte that is no letter, or the length
unfoldable pub first_bad : List ℕ → ℕ
unfolding is_letter seek
first_bad s = seek (no_letter s) 0 (length s)
