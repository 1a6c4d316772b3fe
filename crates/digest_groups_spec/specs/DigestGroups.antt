-- Document 01, "Grouping digests": "Digests equal in position, decoy and letters form a group, groups sorted by these; the
-- reference is the first in input order, proteins are sorted by name bytes, repeats kept."
use Rattle.std.specs.Prelude.{ℕ, ◌+◌, ◌-◌, ◌*◌, ◌/◌, Bool, cond, ◌&&◌, List, [], ◌∷◌, ◌++◌, map, length, get_or, take, drop, replicate, Ok, Err}
use Rattle.lists.specs.Lists.{up_from, keep, same}
use Rattle.records.specs.declared.refusal.Refusal.TheVariants.{Room}
use Rattle.records.specs.Le.{le}
use Rattle.records.specs.Outcome.{Outcome, outcome}
use Rattle.records.specs.Room.{fits, fitted, singly}
use Rattle.letters.specs.Reversal.{letters_of}
use Rattle.enzyme_keep.specs.Digests.{start_of, end_of, position_in, decoy_in, is_decoy, protein_in}
use Rattle.sorting_spec.specs.Sort.{sorted}
use Rattle.sorting_spec.specs.Lex.{lex_le}
use Rattle.sorting_spec.specs.Joined.{name_of}
use Rattle.sorting_spec.specs.Distinct.{distinct}
use Rattle.records.specs.Answers.{Counted}

-- digest i of a list: the 20 bytes of its record
abbrev pub digest_at : List ℕ → ℕ → List ℕ
digest_at bytes i = take 20 (drop (20 * i) bytes)

abbrev pub digests_in : List ℕ → List (List ℕ)
digests_in bytes = map (digest_at bytes) (up_from 0 (length bytes / 20))

-- "Digest ranges count from their protein's first letter"; a decoy's letters are reversed
abbrev pub letters_in : List ℕ → List ℕ → List ℕ → List ℕ
letters_in bounds letters d = letters_of (is_decoy d) (take (end_of d - start_of d) (drop (get_or bounds (protein_in d) 0 + start_of d) letters))

-- position, decoy and letters
abbrev pub key_of : List ℕ → List ℕ → List ℕ → List ℕ
key_of bounds letters d = position_in d ∷ decoy_in d ∷ letters_in bounds letters d

-- the digests equal in these, in input order, for each of them, sorted
abbrev pub gathered : List ℕ → List ℕ → List (List ℕ) → List (List (List ℕ))
gathered bounds letters ds = map (λ (k : List ℕ). keep (λ (d : List ℕ). same (key_of bounds letters d) k) ds) (distinct (map (key_of bounds letters) ds))

-- proteins are sorted by name bytes, repeats kept
abbrev pub by_name : List ℕ → ℕ → ℕ → Bool
by_name names a b = lex_le (name_of names a) (name_of names b)

abbrev pub proteins_of : List ℕ → List (List ℕ) → List ℕ
proteins_of names ms = sorted (by_name names) (map protein_in ms)

-- a group's record: the reference, which is the first in input order, and the first place and the number of its proteins; document
-- 02, [7]: "Grouping keeps the reference's number, its record grows to 28 bytes"
abbrev pub group_of : ℕ → List (List ℕ) → List (List ℕ)
group_of at [] = []
group_of at (d ∷ ds) = (d ++ le 4 at ++ le 4 (length (d ∷ ds))) ∷ []

-- the records of groups whose proteins stand from a place on
abbrev pub groups_from : ℕ → List (List (List ℕ)) → List (List ℕ)
groups_from at [] = []
groups_from at (ms ∷ mss) = group_of at ms ++ groups_from (at + length ms) mss

-- the proteins of groups, one behind the other
abbrev pub protein_list : List ℕ → List (List (List ℕ)) → List ℕ
protein_list names [] = []
protein_list names (ms ∷ mss) = proteins_of names ms ++ protein_list names mss

-- what a call leaves where its tests passed: how many groups there are, or that one of the two lists has no room; the work memory
-- zero, and of both lists the first that fit
abbrev pub digests_grouped : List ℕ → List (List (List ℕ)) → List ℕ → List ℕ → List ℕ → Outcome Counted
digests_grouped names mss work groups proteins =
    let rs = groups_from 0 mss in
    let ps = singly (protein_list names mss) in
    outcome (cond (fits 28 1048576 groups rs && fits 1 1048576 proteins ps) (Ok (length rs)) (Err Room))
    (replicate (length work) 0 ∷ fitted 28 1048576 groups rs ∷ fitted 1 1048576 proteins ps ∷ [])
