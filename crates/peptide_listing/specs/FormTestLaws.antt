-- What the tests of lists come to. Assumes nothing.
use Rattle.std.specs.Prelude.{ℕ, ◌/◌, ◌≤◌, ◌≡◌, true, false, cond, ◌||◌, List, length, ltb, eqb, Err}
use Rattle.std.proofs.Common.{sym, ◌∙◌}
use Rattle.std.proofs.Math.Path.{ap}
use borrow.Author.Tests.{ltb-false, eq-eqb, ne_eqb}
use Rattle.peptide_mass.specs.Masses.{wrong_size}
use Rattle.peptide_listing.specs.FormTests.{tested_form, too_large, tested_lists}
use Rattle.peptide_mass.specs.MassLaws.{size_fits}
use Rattle.lists.specs.Tests.{neither}
use Rattle.records.specs.declared.refusal.Refusal.{Refusal}
use Rattle.records.specs.declared.refusal.Refusal.TheVariants.{Size, Length}
use Rattle.modification_rules.specs.Rules.{first_bad_rule}
use Rattle.records.specs.Tested.{field_tested}
use Rattle.records.specs.TestedLaws.{first_refuses, first_passes, passed_first}
use Rattle.records.specs.Answers.{Passed, Tested}

-- ---- letters and the form of their ids

module _ (letters form : List ℕ) where
  pub form-size : wrong_size (length letters) ≡ true → Err Size ≡ tested_form letters form
  unfolding tested_form
  form-size e = rw e

  module _ (fits : wrong_size (length letters) ≡ false) where
    pub form-length : (length form ≡ 66 → ⊥) → Err Length ≡ tested_form letters form
    unfolding tested_form
    form-length h = rw (fits, ne_eqb (length form) 66 h)

    pub form-whole : length form ≡ 66 → Passed ≡ tested_form letters form
    unfolding tested_form
    form-whole h = rw (fits, eq-eqb (length form) 66 h)

  pub form_sized : tested_form letters form ≡ Passed → wrong_size (length letters) ≡ false
  unfolding tested_form
  form_sized h = (passed_first (wrong_size (length letters)) Size (cond (eqb (length form) 66) Passed (Err Length)) h).0

-- ---- the records of both lists

module _ (variable fixed : List ℕ) (v : ℕ) (first : v ≡ first_bad_rule false variable) where
  abbrev one : Tested
  one = field_tested (first_bad_rule false variable) (length variable / 8)

  abbrev two : Tested
  two = field_tested (first_bad_rule true fixed) (length fixed / 8)

  pub lists_variable : (why : Refusal) → field_tested v (length variable / 8) ≡ Err why → Err why ≡ tested_lists variable fixed
  unfolding tested_lists
  lists_variable why e = first_refuses one two why (ap (λ (x : ℕ). field_tested x (length variable / 8)) (sym first) ∙ e)

  pub lists_fixed : field_tested v (length variable / 8) ≡ Passed → (f : ℕ) → f ≡ first_bad_rule true fixed → field_tested f (length fixed / 8) ≡ tested_lists variable fixed
  unfolding tested_lists
  lists_fixed e f next = ap (λ (x : ℕ). field_tested x (length fixed / 8)) next ∙ first_passes one two (ap (λ (x : ℕ). field_tested x (length variable / 8)) (sym first) ∙ e)

pub sizes_fit : (n : ℕ) (variable fixed : List ℕ) (limit : ℕ) → too_large n variable fixed limit ≡ false → (n ≤ 64) × (length variable / 8 ≤ 16) × (length fixed / 8 ≤ 32) × (limit ≤ 8)
sizes_fit n variable fixed limit sized =
    let a = neither (wrong_size n || ltb 16 (length variable / 8) || ltb 32 (length fixed / 8)) (ltb 8 limit) sized in
    let b = neither (wrong_size n || ltb 16 (length variable / 8)) (ltb 32 (length fixed / 8)) a.0 in
    let c = neither (wrong_size n) (ltb 16 (length variable / 8)) b.0 in
    (size_fits n c.0, ltb-false 16 (length variable / 8) c.1, ltb-false 32 (length fixed / 8) b.1, ltb-false 8 limit a.1)
