-- What the tests and the stores of rule records come to. Assumes nothing.
use Rattle.std.specs.Prelude.{ℕ, ◌/◌, ◌%◌, ◌^◌, ◌≤◌, ◌<◌, ◌≡◌, Bool, not, ◌&&◌, length, ltb, eqb, Ok, Err}
use Rattle.std.proofs.Math.Path.{refl, ap}
use Rattle.std.proofs.Common.{sym, ◌∙◌, subst, arith}
use Rattle.std.proofs.Math.Bool.{true, false}
use mathlib.Core.List.{List, [], ◌∷◌, ◌++◌}
use Rattle.std.proofs.Math.Seq.{sets}
use borrow.Author.Tests.{lt-ltb, le-ltb, eq-eqb, ne_eqb}
use Rattle.lists.specs.Tests.{both}
use Rattle.records.specs.declared.refusal.Refusal.{Refusal}
use Rattle.records.specs.declared.refusal.Refusal.TheVariants.{Size, Length, Field, Room}
use Rattle.records.specs.Tested.{field_tested}
use Rattle.records.specs.TestedLaws.{first_refuses}
use Rattle.records.specs.Le.{le, number_at}
use Rattle.records.specs.LeLaws.{value-le}
use Rattle.records.specs.Outcome.{outcome, only}
use Rattle.records.specs.RoomLaws.{stored_one, fits_one, kept-one, full_one}
use Rattle.modification_rules.specs.declared.rule.Rule.{Rule}
use Rattle.modification_kinds.specs.declared.specificity.Specificity.{Specificity}
use Rattle.modification_kinds.specs.declared.specificity.Specificity.TheVariants.{Residue, PeptideN, PeptideC, ProteinN, ProteinC}
use Rattle.modification_kinds.specs.Specificities.{kind_of, letter_of, specificity, sound}
use Rattle.modification_rules.specs.Rules.{good_rule, rule_at, read_rule, first_bad_rule, most_rules, tested_length, tested_rules, sound_rule, rule_bytes, write_rule_outcome}
use Rattle.records.specs.Answers.{Passed, Tested}

-- ---- the tests of a list of rules, one after the other

module _ (fixed : Bool) (rules : List ℕ) where
  module _ (most : ℕ) (is : most ≡ most_rules fixed) where
    pub length-size : most < length rules / 8 → Err Size ≡ tested_length fixed rules
    length-size h = rw (lt-ltb (most_rules fixed) (length rules / 8) (rw is at h))

    module _ (few : length rules / 8 ≤ most) where
      not_many : ltb (most_rules fixed) (length rules / 8) ≡ false
      not_many = le-ltb (most_rules fixed) (length rules / 8) (rw is at few)

      pub length_whole : length rules % 8 ≡ 0 → Passed ≡ tested_length fixed rules
      length_whole h = rw (not_many, eq-eqb (length rules % 8) 0 h)

      pub length_part : (length rules % 8 ≡ 0 → ⊥) → Err Length ≡ tested_length fixed rules
      length_part h = rw (not_many, ne_eqb (length rules % 8) 0 h)

  module _ (t : Tested) (is : t ≡ tested_length fixed rules) where
    pub rules-tested-refused : (why : Refusal) → t ≡ Err why → Err why ≡ tested_rules fixed rules
    unfolding tested_rules
    rules-tested-refused why e = first_refuses (tested_length fixed rules) _ why (sym is ∙ e)

    pub rules-tested-on : t ≡ Passed → (bad : ℕ) → bad ≡ first_bad_rule fixed rules → field_tested bad (length rules / 8) ≡ tested_rules fixed rules
    unfolding tested_rules
    rules-tested-on e bad first = rw (first, ← is, e)

-- ---- a record that is read

module _ (rules : List ℕ) (r : ℕ) (t : Tested) (is : t ≡ tested_length true rules) where
  pub read-refused : (why : Refusal) → t ≡ Err why → Err why ≡ read_rule rules r
  unfolding read_rule
  read-refused why e = rw (← is, e)

  module _ (passed : t ≡ Passed) where
    pub read_none : length rules / 8 ≤ r → Err (Field r) ≡ read_rule rules r
    unfolding read_rule
    read_none h = rw (← is, passed, le-ltb r (length rules / 8) h)

    module _ (there : r < length rules / 8) where
      pub read_bad : good_rule false rules r ≡ false → Err (Field r) ≡ read_rule rules r
      unfolding read_rule
      read_bad e = rw (← is, passed, lt-ltb r (length rules / 8) there, e)

      pub read_good : good_rule false rules r ≡ true → (q : Rule) → q ≡ rule_at rules r → Ok q ≡ read_rule rules r
      unfolding read_rule
      read_good e q f = rw (← is, passed, lt-ltb r (length rules / 8) there, e, f)

-- ---- a rule in a buffer

module _ (q : Rule) (old : List ℕ) (k l : ℕ) (ek : k ≡ kind_of q.on) (el : l ≡ letter_of q.on) where
  is_sound : (x : Bool) → (sound k l && not (eqb q.id 0)) ≡ x → sound_rule q ≡ x
  is_sound x h = subst (λ (m : ℕ). (sound m (letter_of q.on) && not (eqb q.id 0)) ≡ x) ek (subst (λ (m : ℕ). (sound k m && not (eqb q.id 0)) ≡ x) el h)

  pub rule_bad : (sound k l && not (eqb q.id 0)) ≡ false → outcome (Err (Field 0)) (old ∷ []) ≡ write_rule_outcome q old
  unfolding write_rule_outcome
  rule_bad h = rw (is_sound false h)

  module _ (h : (sound k l && not (eqb q.id 0)) ≡ true) where
    pub rule_full : length old < 8 → outcome (Err Room) (old ∷ []) ≡ write_rule_outcome q old
    unfolding write_rule_outcome
    rule_full g =
        let f = full_one 8 (rule_bytes q) old refl (omega arith) g in
        let e = kept-one 8 (rule_bytes q) old refl (omega arith) g in
        ap (λ (x : List ℕ). outcome (Err Room) (x ∷ [])) e ∙ rw (is_sound true h, f)

    pub rule-stored : 8 ≤ length old → (out : List ℕ) → out ≡ sets old 0 (k ∷ l ∷ q.id ∷ 0 ∷ le 4 q.limit) → outcome Passed (out ∷ []) ≡ write_rule_outcome q old
    unfolding write_rule_outcome
    rule-stored g out e =
        let f = fits_one 8 (rule_bytes q) old refl (omega arith) g in
        let s = stored_one 8 (rule_bytes q) old refl (omega arith) g in
        let b : sets old 0 (k ∷ l ∷ q.id ∷ 0 ∷ le 4 q.limit) ≡ sets old 0 (rule_bytes q) = rw (ek, el) in
        ap (λ (x : List ℕ). outcome Passed (x ∷ [])) (e ∙ b ∙ s) ∙ rw (is_sound true h, f)

-- no second answer, and no second contents, meets what `write_rule` ensures
pub write_rule_only : (q : Rule) (old : List ℕ) (a b : Tested) (k l : List (List ℕ)) → outcome a k ≡ write_rule_outcome q old → outcome b l ≡ write_rule_outcome q old → (a ≡ b) × (k ≡ l)
write_rule_only q old a b k l = only a b k l (write_rule_outcome q old)

-- ---- writing, then reading

kind_letter : (s : Specificity) → specificity (kind_of s) (letter_of s) ≡ s
kind_letter (Residue b) = refl
kind_letter (PeptideN b) = refl
kind_letter (PeptideC b) = refl
kind_letter (ProteinN b) = refl
kind_letter (ProteinC b) = refl

-- a sound rule that was written is read back, in whole records of which there are not too many
pub write_then_read : (q : Rule) (rest : List ℕ) → sound_rule q ≡ true → q.limit < 256 ^ 4
    → tested_length true (rule_bytes q ++ rest) ≡ Passed → read_rule (rule_bytes q ++ rest) 0 ≡ Ok q
unfolding read_rule good_rule number_at
write_then_read q rest h g t =
    let x = both (sound (kind_of q.on) (letter_of q.on)) (not (eqb q.id 0)) h in
    let some : 0 < length (rule_bytes q ++ rest) / 8 = omega arith in
    rw (t, lt-ltb 0 (length (rule_bytes q ++ rest) / 8) some, x.0, x.1, kind_letter q.on, value-le 4 q.limit g)
