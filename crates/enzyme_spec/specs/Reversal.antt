-- Document 01: `Digest::reverse` reverses the inner letters, on a record sets decoy to 1, and leaves decoys unchanged; a
-- digest record with decoy 1 has its range's letters, all but first and last reversed.
use Rattle.std.specs.Prelude.{ℕ, ◌-◌, ◌≡◌, cond, ◌&&◌, ◌||◌, List, [], ◌∷◌, length, take, drop, set, ltb, leb, eqb, Err}
use Rattle.records.specs.declared.refusal.Refusal.TheVariants.{Size, Letter, Length, Field}
use Rattle.records.specs.Outcome.{Outcome, outcome, unless_refused, only}
use Rattle.records.specs.Room.{singly, counted}
use Rattle.letters.specs.Letters.{capitals, first_bad}
use Rattle.enzyme_keep.specs.Digests.{start_of, end_of, is_decoy, good_record}
use Rattle.letters.specs.Reversal.{reversed, letters_of}
use Rattle.records.specs.Answers.{Counted, Passed, Tested}

-- ---- of letters

-- 1: no letters, or more than a protein's 65,536; then 2 at the first byte that is no letter
abbrev pub stretch_tested : List ℕ → Tested
stretch_tested s =
    cond (eqb (length s) 0 || ltb 65536 (length s)) (Err Size)
    (cond (ltb (first_bad s) (length s)) (Err (Letter (first_bad s))) Passed)

-- what is written is capitals
abbrev pub reverse_outcome : List ℕ → Outcome Tested
reverse_outcome s = unless_refused (stretch_tested s) Err (s ∷ []) (outcome Passed (reversed (capitals s) ∷ []))

-- ---- of a record

-- 8: not the 20 bytes of one record; then 9
abbrev pub record_tested : List ℕ → Tested
record_tested r = cond (eqb (length r) 20) (cond (good_record r) Passed (Err (Field 0))) (Err Length)

-- decoy, the byte at 11, is 1: a decoy stays as it was, and so does how often the letters occur
abbrev pub reverse_record_outcome : List ℕ → Outcome Tested
reverse_record_outcome r = unless_refused (record_tested r) Err (r ∷ []) (outcome Passed (set r 11 1 ∷ []))

-- ---- the letters of a record

abbrev pub range_letters : List ℕ → ℕ → ℕ → List ℕ
range_letters s start end = take (end - start) (drop start s)

abbrev pub record_letters : List ℕ → List ℕ → List ℕ
record_letters s r = letters_of (is_decoy r) (range_letters s (start_of r) (end_of r))

-- 1: more than a protein's letters; 8; 2; and 9 also where the end is not within this protein
abbrev pub spelling_tested : List ℕ → List ℕ → Tested
spelling_tested s r =
    cond (ltb 65536 (length s)) (Err Size)
    (cond (eqb (length r) 20)
    (cond (ltb (first_bad s) (length s)) (Err (Letter (first_bad s)))
    (cond (good_record r && leb (end_of r) (length s)) Passed (Err (Field 0))))
    (Err Length))

-- then 11: a text's record is a byte
abbrev pub letters_outcome : List ℕ → List ℕ → List ℕ → Outcome Counted
letters_outcome s r old = unless_refused (spelling_tested s r) Err (old ∷ []) (counted 1 65536 old (singly (record_letters s r)))

-- ---- no second answer and no second contents meet the contracts

pub reverse_only : (s : List ℕ) (r q : Tested) (k l : List ℕ) → outcome r (k ∷ []) ≡ reverse_outcome s → outcome q (l ∷ []) ≡ reverse_outcome s → (r ≡ q) × (k ∷ [] ≡ l ∷ [])
reverse_only s r q k l = only r q (k ∷ []) (l ∷ []) (reverse_outcome s)

pub reverse_record_only : (b : List ℕ) (r q : Tested) (k l : List ℕ) → outcome r (k ∷ []) ≡ reverse_record_outcome b → outcome q (l ∷ []) ≡ reverse_record_outcome b → (r ≡ q) × (k ∷ [] ≡ l ∷ [])
reverse_record_only b r q k l = only r q (k ∷ []) (l ∷ []) (reverse_record_outcome b)

pub letters_only : (s b old : List ℕ) (r q : Counted) (k l : List ℕ) → outcome r (k ∷ []) ≡ letters_outcome s b old → outcome q (l ∷ []) ≡ letters_outcome s b old → (r ≡ q) × (k ∷ [] ≡ l ∷ [])
letters_only s b old r q k l = only r q (k ∷ []) (l ∷ []) (letters_outcome s b old)
