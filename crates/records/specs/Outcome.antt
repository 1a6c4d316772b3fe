-- What a call leaves: its answer, and what each slice lent to it holds at exit, in argument order.
use Rattle.std.specs.Prelude.{◌≡◌, List, ℕ, Ok, Err}
use Rattle.std.proofs.Common.{sym, ap, ◌∙◌}
use Rattle.records.specs.declared.refusal.Refusal.{Refusal}
use Rattle.records.specs.Answers.{Tested}

pub record Outcome (A : Type 0) : Type 0 where
  pub answer : A
  pub lent : List (List ℕ)

abbrev pub outcome : {A : Type 0} → A → List (List ℕ) → Outcome A
outcome r lent = record { answer = r; lent = lent }

-- what tests refuse is said in the answer and leaves what was lent as it was; what passes them is done
abbrev pub unless_refused : {A : Type 0} → Tested → (Refusal → A) → List (List ℕ) → Outcome A → Outcome A
unless_refused (Ok _) say old done = done
unless_refused (Err why) say old done = outcome (say why) old

-- a contract that equals an outcome admits no second answer and no second contents
pub only : {A : Type 0} (r q : A) (k l : List (List ℕ)) (o : Outcome A) → outcome r k ≡ o → outcome q l ≡ o → (r ≡ q) × (k ≡ l)
only {A} r q k l o p s =
    let e : outcome r k ≡ outcome q l = p ∙ sym s in
    (ap (λ (x : Outcome A). x.answer) e, ap (λ (x : Outcome A). x.lent) e)

-- nor does one that equals a definition: of an answer alone, or of one slice
pub equal_only : {A : Type 0} (r q d : A) → r ≡ d → q ≡ d → r ≡ q
equal_only r q d e f = e ∙ sym f
