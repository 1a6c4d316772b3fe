-- From an entry's answer to what the call leaves. Assumes nothing.
use Rattle.std.specs.Prelude.{ℕ, ◌≤◌, ◌≡◌, true, false, ◌&&◌, List, [], ◌∷◌, get_or, leb, Ok, Err}
use Rattle.std.proofs.Common.{sym, ap, ◌∙◌, leb-true}
use Rattle.lists.specs.Tests.{both}
use Rattle.records.specs.declared.refusal.Refusal.{Refusal}
use Rattle.records.specs.declared.refusal.Refusal.TheVariants.{Field}
use Rattle.records.specs.Refusals.{number_of, place_of}
use Rattle.records.specs.Outcome.{Outcome, outcome}
use Rattle.modification_kinds.specs.Specificities.{specificity}
use Rattle.modification_texts.specs.Texts.{write_outcome}
use Rattle.modification_rules.specs.Rules.{write_rule_outcome}
use Rattle.sendumaal_calls.specs.Calls.{accepted, refused, test_call, insert_call, with_lent, count_call, counted_call, write_call, tested_call, record_call, is_rule}
use Rattle.records.specs.Answers.{Counted, Tested}
use Rattle.modification_table.specs.Tables.{Entered}

-- a refusal's number is returned and its place written
pub said : (r : Refusal) (n p : ℕ) → n ≡ number_of r → p ≡ place_of r → (lent : List (List ℕ)) → outcome n ((p ∷ []) ∷ lent) ≡ refused r lent
said r n p e f lent = rw (e, f)

module _ (o : Outcome Entered) (a : Entered) (lent : List (List ℕ)) (id : ℕ) (e : outcome a lent ≡ o) where
  pub insert_id : (n : ℕ) → a ≡ Ok n → accepted ((n ∷ []) ∷ lent) ≡ insert_call o id
  insert_id n f = ap (λ (x : Entered). insert_call (outcome x lent) id) (sym f) ∙ ap (λ (x : Outcome Entered). insert_call x id) e

  pub insert_no : (r : Refusal) → a ≡ Err r → refused r ((id ∷ []) ∷ lent) ≡ insert_call o id
  insert_no r f = ap (λ (x : Entered). insert_call (outcome x lent) id) (sym f) ∙ ap (λ (x : Outcome Entered). insert_call x id) e

-- what the answer of a list is told as
pub count_said : (a : Counted) (n p q : ℕ) (count : ℕ) → outcome n ((p ∷ []) ∷ (q ∷ []) ∷ []) ≡ count_call a count → (lent : List (List ℕ)) (o : Outcome Counted) → outcome a lent ≡ o
    → outcome n ((p ∷ []) ∷ (q ∷ []) ∷ lent) ≡ counted_call o count
count_said a n p q count e lent o f = ap (λ (x : Outcome ℕ). with_lent x lent) e ∙ ap (λ (x : Outcome Counted). counted_call x count) f

-- the parts of a rule are bytes
pub rule_bytes : (kind letter id : ℕ) → is_rule kind letter id ≡ true → (kind ≤ 4) × (letter ≤ 255) × (id ≤ 255)
rule_bytes kind letter id e =
    let x = both (leb kind 4 && leb letter 255) (leb id 255) e in
    let y = both (leb kind 4) (leb letter 255) x.0 in
    (leb-true kind 4 y.0, leb-true letter 255 y.1, leb-true id 255 x.1)

-- what the tests' answer is told as
pub check_said : (a : Tested) (n p : ℕ) → outcome n ((p ∷ []) ∷ []) ≡ test_call a → (lent : List (List ℕ)) → outcome n ((p ∷ []) ∷ lent) ≡ tested_call (outcome a lent)
check_said (Ok x) n p e lent =
    let f : n ≡ 0 = ap (λ (x : Outcome ℕ). x.answer) e in
    let g : p ≡ 0 = ap (λ (x : Outcome ℕ). get_or (get_or x.lent 0 []) 0 0) e in
    rw (f, g)
check_said (Err r) n p e lent =
    let f : n ≡ number_of r = ap (λ (x : Outcome ℕ). x.answer) e in
    let g : p ≡ place_of r = ap (λ (x : Outcome ℕ). get_or (get_or x.lent 0 []) 0 0) e in
    rw (f, g)

module _ (kind letter : ℕ) (out : List ℕ) where
  pub write_rule : (count : ℕ) → is_rule kind letter 0 ≡ true → counted_call (write_outcome (specificity kind letter) out) count ≡ write_call kind letter out count
  write_rule count h = rw h

  pub write_none : (count : ℕ) → is_rule kind letter 0 ≡ false → refused (Field 0) ((count ∷ []) ∷ out ∷ []) ≡ write_call kind letter out count
  write_none count h = rw h

  module _ (id limit : ℕ) where
    pub record_rule : is_rule kind letter id ≡ true → tested_call (write_rule_outcome (record { on = specificity kind letter; id = id; limit = limit }) out) ≡ record_call kind letter id limit out
    record_rule h = rw h

    pub record_none : is_rule kind letter id ≡ false → refused (Field 0) (out ∷ []) ≡ record_call kind letter id limit out
    record_none h = rw h
