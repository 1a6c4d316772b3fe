-- What the tests of the entry establish, and what the tables of the work memory hold. The public statement does not cite this.
use Rattle.std.specs.Prelude.{ℕ, ◌+◌, ◌-◌, ◌*◌, ◌≤◌, ◌<◌, ◌≡◌, List, length, get_or}
use Rattle.letters.specs.Letters.{capital}
use Rattle.digest_groups_words.specs.declared.spelling.Spelling.{Spelling}
use Rattle.digest_groups_words.specs.Word.{digest_word}
use Rattle.enzyme_keep.specs.Digests.{start_of, end_of, position_in, decoy_in, protein_in}
use Rattle.digest_groups_spec.specs.DigestGroups.{digest_at, letters_in}

-- letters, and no more than a book has
pub record BookLetters (letters : List ℕ) : Type 0 where
  pub small : length letters ≤ 268435456
  pub spelt : (j : ℕ) → j < length letters → (65 ≤ capital (get_or letters j 0)) × (capital (get_or letters j 0) ≤ 90)

-- a digest's range lies within the book, and its fields within theirs
pub record DigestInside (bounds letters d : List ℕ) : Type 0 where
  pub book : BookLetters letters
  pub rises : start_of d < end_of d
  pub within : protein_in d < length bounds
  pub ends : get_or bounds (protein_in d) 0 + end_of d ≤ length letters
  pub place : position_in d ≤ 3
  pub flag : decoy_in d ≤ 1

-- n digests that do
pub record GoodDigests (bounds letters bytes : List ℕ) (n : ℕ) : Type 0 where
  pub whole : length bytes ≡ 20 * n
  pub few : n ≤ 1048576
  pub inside : (i : ℕ) → i < n → DigestInside bounds letters (digest_at bytes i)

abbrev pub digest_spelling : List ℕ → List ℕ → List ℕ → Spelling
digest_spelling bounds letters d = record {
  word = digest_word (position_in d) (decoy_in d) (letters_in bounds letters d);
  from = get_or bounds (protein_in d) 0 + start_of d;
  size = 2 * (end_of d - start_of d) + decoy_in d;
}

-- the numbers of the first i of n digests stand from 0 on, what they are sorted by from 2 n, 3 n and 4 n on
pub record DigestTables (bounds letters bytes : List ℕ) (n i : ℕ) (w : List ℕ) : Type 0 where
  pub order : (x : ℕ) → x < i → get_or w x 0 ≡ x
  pub words : (x : ℕ) → x < i → get_or w (2 * n + x) 0 ≡ (digest_spelling bounds letters (digest_at bytes x)).word
  pub froms : (x : ℕ) → x < i → get_or w (3 * n + x) 0 ≡ (digest_spelling bounds letters (digest_at bytes x)).from
  pub sizes : (x : ℕ) → x < i → get_or w (4 * n + x) 0 ≡ (digest_spelling bounds letters (digest_at bytes x)).size
