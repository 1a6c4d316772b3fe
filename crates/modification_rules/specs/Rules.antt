-- Document 01, the rule record, 8 bytes: "kind u8, letter u8, id u8 (not 0), zero, limit u32 (all ones: no limit; always so
-- in a fixed rule)".
use Rattle.std.specs.Prelude.{ℕ, ◌+◌, ◌*◌, ◌/◌, ◌%◌, Bool, true, false, cond, not, ◌&&◌, ◌||◌, List, [], ◌∷◌, length, get_or, ltb, eqb, Result, Ok, Err}
use Rattle.records.specs.declared.refusal.Refusal.{Refusal}
use Rattle.records.specs.declared.refusal.Refusal.TheVariants.{Size, Length, Field, Room}
use Rattle.records.specs.Le.{le, number_at}
use Rattle.records.specs.Tested.{and_then, field_tested}
use Rattle.records.specs.Search.{seek}
use Rattle.records.specs.Outcome.{Outcome, outcome}
use Rattle.records.specs.Room.{fits, fitted}
use Rattle.modification_rules.specs.declared.rule.Rule.{Rule}
use Rattle.modification_kinds.specs.Specificities.{kind_of, letter_of, specificity, sound}
use Rattle.records.specs.Answers.{Passed, Tested}

-- what it answers, or why not
abbrev pub Read : Type 0
Read = Result Rule Refusal

abbrev pub no_limit : ℕ
no_limit = 4294967295

-- record r is a rule, fixed or variable
unfoldable pub good_rule : Bool → List ℕ → ℕ → Bool
good_rule fixed rules r =
    sound (get_or rules (r * 8) 0) (get_or rules (r * 8 + 1) 0)
    && not (eqb (get_or rules (r * 8 + 2) 0) 0)
    && eqb (get_or rules (r * 8 + 3) 0) 0
    && (not fixed || eqb (number_at 4 rules (r * 8 + 4)) no_limit)

-- what record r says
abbrev pub rule_at : List ℕ → ℕ → Rule
rule_at rules r =
    record {
      on = specificity (get_or rules (r * 8) 0) (get_or rules (r * 8 + 1) 0);
      id = get_or rules (r * 8 + 2) 0;
      limit = number_at 4 rules (r * 8 + 4);
    }

-- record r is none
abbrev pub no_rule : Bool → List ℕ → ℕ → Bool
no_rule fixed rules r = not (good_rule fixed rules r)

-- the index of the first record that is no rule, or the number of whole records
unfoldable pub first_bad_rule : Bool → List ℕ → ℕ
unfolding seek
first_bad_rule fixed rules = seek (no_rule fixed rules) 0 (length rules / 8)

abbrev pub most_rules : Bool → ℕ
most_rules fixed = cond fixed 32 16

-- 1: more than 16 variable rules or 32 fixed ones; 8: no whole records
abbrev pub tested_length : Bool → List ℕ → Tested
tested_length fixed rules =
    cond (ltb (most_rules fixed) (length rules / 8)) (Err Size)
    (cond (eqb (length rules % 8) 0) Passed (Err Length))

-- then 9: the first that is no rule
unfoldable pub tested_rules : Bool → List ℕ → Tested
tested_rules fixed rules = and_then (tested_length fixed rules) (field_tested (first_bad_rule fixed rules) (length rules / 8))

abbrev pub read_or : Tested → Read → Read
read_or (Ok _) found = found
read_or (Err why) found = Err why

-- record r of a list of either kind, so of at most 32: 1, 8, then 9: it is no rule, or there is no such record
unfoldable pub read_rule : List ℕ → ℕ → Read
read_rule rules r =
    read_or (tested_length true rules)
    (cond (ltb r (length rules / 8) && good_rule false rules r) (Ok (rule_at rules r)) (Err (Field r)))

-- a rule that a record may hold
abbrev pub sound_rule : Rule → Bool
sound_rule q = sound (kind_of q.on) (letter_of q.on) && not (eqb q.id 0)

abbrev pub rule_bytes : Rule → List ℕ
rule_bytes q = kind_of q.on ∷ letter_of q.on ∷ q.id ∷ 0 ∷ le 4 q.limit

-- one record in a lent buffer: 9, then 11
unfoldable pub write_rule_outcome : Rule → List ℕ → Outcome Tested
write_rule_outcome q old =
    cond (sound_rule q)
    (outcome (cond (fits 8 1 old (rule_bytes q ∷ [])) Passed (Err Room)) (fitted 8 1 old (rule_bytes q ∷ []) ∷ []))
    (outcome (Err (Field 0)) (old ∷ []))
