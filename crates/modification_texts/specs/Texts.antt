-- Document 01, "Rules and the table": "A rule text is `^`, `$`, `[` or `]` with at most one letter, or one letter alone."
-- Of its refusals the order is 4, 2, 6, 5.
-- Document 02, [2]: "A rule is always written with a capital, so a written-back text equals the accepted text up to capitals."
use Rattle.std.specs.Prelude.{ℕ, ◌+◌, Bool, cond, not, List, [], ◌∷◌, length, get_or, ltb, eqb, Result, Ok, Err}
use Rattle.letters.specs.declared.letter_set.LetterSet.{LetterSet}
use Rattle.letters.specs.Letters.{capital, has}
use Rattle.records.specs.declared.refusal.Refusal.{Refusal}
use Rattle.records.specs.declared.refusal.Refusal.TheVariants.{Letter, EmptyText, Outside, LongText, Field}
use Rattle.records.specs.Search.{seek}
use Rattle.records.specs.Outcome.{Outcome, outcome}
use Rattle.records.specs.Room.{singly, counted}
use Rattle.modification_kinds.specs.declared.specificity.Specificity.{Specificity}
use Rattle.modification_kinds.specs.Specificities.{kind_of, letter_of, specificity, sound}
use Rattle.records.specs.Answers.{Counted}

-- what it answers, or why not
abbrev pub Parsed : Type 0
Parsed = Result Specificity Refusal

-- ---- reading

-- at a place stands a byte of 128 or more
abbrev pub wide : List ℕ → ℕ → Bool
wide text i = not (ltb (get_or text i 0) 128)

-- the index of the first such byte, or the length
unfoldable pub first_wide : List ℕ → ℕ
unfolding seek
first_wide text = seek (wide text) 0 (length text)

-- `^` is 94, `$` is 36, `[` is 91, `]` is 93; a byte that is no mark stands for kind 0, a residue
abbrev pub mark_of : ℕ → ℕ
mark_of b = cond (eqb b 94) 1 (cond (eqb b 36) 2 (cond (eqb b 91) 3 (cond (eqb b 93) 4 0)))

-- where the letter of a kind stands in a text: behind the mark, or first
abbrev pub letter_place : ℕ → ℕ
letter_place kind = cond (eqb kind 0) 0 1

-- the rule of a kind, whose letter, if any, stands at a place and reads as a capital; 5: a letter not in the alphabet, its index
abbrev pub parsed_letter : List ℕ → ℕ → ℕ → LetterSet → Parsed
parsed_letter text kind at alphabet =
    cond (eqb (length text) at) (Ok (specificity kind 0))
    (cond (has alphabet (get_or text at 0)) (Ok (specificity kind (capital (get_or text at 0))))
    (Err (Outside at)))

-- 4: an empty text; 2: a byte of 128 or more; 6: more than a mark and a letter, or than a letter
unfoldable pub parsed : List ℕ → LetterSet → Parsed
unfolding first_wide
parsed text alphabet =
    cond (eqb (length text) 0) (Err EmptyText)
    (cond (ltb (first_wide text) (length text)) (Err (Letter (first_wide text)))
    (cond (ltb (letter_place (mark_of (get_or text 0 0)) + 1) (length text)) (Err LongText)
    (parsed_letter text (mark_of (get_or text 0 0)) (letter_place (mark_of (get_or text 0 0))) alphabet)))

-- ---- writing

abbrev pub mark_byte : ℕ → ℕ
mark_byte kind = cond (eqb kind 1) 94 (cond (eqb kind 2) 36 (cond (eqb kind 3) 91 93))

-- one letter alone, or a mark with at most one letter
abbrev pub text_of : Specificity → List ℕ
text_of s =
    cond (eqb (kind_of s) 0) (letter_of s ∷ [])
    (cond (eqb (letter_of s) 0) (mark_byte (kind_of s) ∷ [])
    (mark_byte (kind_of s) ∷ letter_of s ∷ []))

-- 9: a kind with a letter that no rule has; 11: a text's record is a byte
unfoldable pub write_outcome : Specificity → List ℕ → Outcome Counted
write_outcome s old = cond (sound (kind_of s) (letter_of s)) (counted 1 2 old (singly (text_of s))) (outcome (Err (Field 0)) (old ∷ []))
