-- What a call of the C face leaves: the number that it returns, then *place, the other results and the lent slices. 0 says
-- that the call was accepted, any other number is document 01's; *place is 0 or the refusal's; a refusal leaves the results
-- as they were.
use Rattle.std.specs.Prelude.{ℕ, Bool, cond, ◌&&◌, List, [], ◌∷◌, ◌++◌, leb, Result, Ok, Err}
use Rattle.letters.specs.declared.letter_set.LetterSet.{LetterSet}
use Rattle.modification_kinds.specs.Specificities.{kind_of, letter_of, specificity}
use Rattle.modification_texts.specs.Texts.{Parsed, write_outcome}
use Rattle.modification_rules.specs.Rules.{Read, write_rule_outcome}
use Rattle.records.specs.declared.refusal.Refusal.{Refusal}
use Rattle.records.specs.declared.refusal.Refusal.TheVariants.{Field}
use Rattle.records.specs.Refusals.{number_of, place_of}
use Rattle.records.specs.Outcome.{Outcome, outcome}
use Rattle.modification_table.specs.Tables.{Entered}
use Rattle.records.specs.Answers.{Counted, Tested}

abbrev pub set_of : ℕ → LetterSet
set_of m = record { mask = m }

-- accepted, with the results and slices as they are then
abbrev pub accepted : List (List ℕ) → Outcome ℕ
accepted lent = outcome 0 ((0 ∷ []) ∷ lent)

-- refused, with the results and slices as they were
abbrev pub refused : Refusal → List (List ℕ) → Outcome ℕ
refused r lent = outcome (number_of r) ((place_of r ∷ []) ∷ lent)

-- the same number and results, with more lent behind them
abbrev pub with_lent : Outcome ℕ → List (List ℕ) → Outcome ℕ
with_lent o lent = outcome o.answer (o.lent ++ lent)

-- how many records were written
abbrev pub count_call : Counted → ℕ → Outcome ℕ
count_call (Ok n) count = accepted ((n ∷ []) ∷ [])
count_call (Err r) count = refused r ((count ∷ []) ∷ [])

-- with the buffer that they were written to
abbrev pub counted_call : Outcome Counted → ℕ → Outcome ℕ
counted_call o count = with_lent (count_call o.answer count) o.lent

-- an answer, but for what is answered
abbrev pub test_call : {A : Type 0} → Result A Refusal → Outcome ℕ
test_call (Ok _) = accepted []
test_call (Err r) = refused r []

abbrev pub parse_call : Parsed → ℕ → ℕ → Outcome ℕ
parse_call (Ok s) kind letter = accepted ((kind_of s ∷ []) ∷ (letter_of s ∷ []) ∷ [])
parse_call (Err r) kind letter = refused r ((kind ∷ []) ∷ (letter ∷ []) ∷ [])

abbrev pub insert_call : Outcome Entered → ℕ → Outcome ℕ
insert_call o id = go o.answer
  where
    go : Entered → Outcome ℕ
    go (Ok n) = accepted ((n ∷ []) ∷ o.lent)
    go (Err r) = refused r ((id ∷ []) ∷ o.lent)

-- numbers that can be the kind, the letter and the id of a rule: the letter and the id are bytes
abbrev pub is_rule : ℕ → ℕ → ℕ → Bool
is_rule kind letter id = leb kind 4 && leb letter 255 && leb id 255

abbrev pub write_call : ℕ → ℕ → List ℕ → ℕ → Outcome ℕ
write_call kind letter out count = cond (is_rule kind letter 0) (counted_call (write_outcome (specificity kind letter) out) count) (refused (Field 0) ((count ∷ []) ∷ out ∷ []))

abbrev pub read_call : Read → ℕ → ℕ → ℕ → ℕ → Outcome ℕ
read_call (Ok q) kind letter id limit = accepted ((kind_of q.on ∷ []) ∷ (letter_of q.on ∷ []) ∷ (q.id ∷ []) ∷ (q.limit ∷ []) ∷ [])
read_call (Err r) kind letter id limit = refused r ((kind ∷ []) ∷ (letter ∷ []) ∷ (id ∷ []) ∷ (limit ∷ []) ∷ [])

abbrev pub tested_call : Outcome Tested → Outcome ℕ
tested_call o = go o.answer
  where
    go : Tested → Outcome ℕ
    go (Ok _) = accepted o.lent
    go (Err r) = refused r o.lent

abbrev pub record_call : ℕ → ℕ → ℕ → ℕ → List ℕ → Outcome ℕ
record_call kind letter id limit out =
    cond (is_rule kind letter id) (tested_call (write_rule_outcome (record { on = specificity kind letter; id = id; limit = limit }) out)) (refused (Field 0) (out ∷ []))
