-- What lists must be: letters with the form of their ids, and the rules of a call of `forms`.
use Rattle.std.specs.Prelude.{ℕ, ◌/◌, ◌%◌, Bool, true, false, cond, not, ◌&&◌, ◌||◌, List, length, ltb, eqb, Err}
use Rattle.records.specs.declared.refusal.Refusal.TheVariants.{Size, Length}
use Rattle.modification_rules.specs.Rules.{first_bad_rule, most_rules}
use Rattle.records.specs.Tested.{and_then, field_tested}
use Rattle.peptide_mass.specs.Masses.{wrong_size}
use Rattle.records.specs.Answers.{Passed, Tested}

-- letters and the form of their ids: 1, then 8: the form is not one record
unfoldable pub tested_form : List ℕ → List ℕ → Tested
tested_form letters form =
    cond (wrong_size (length letters)) (Err Size)
    (cond (eqb (length form) 66) Passed (Err Length))

-- ---- rules

-- 1: the peptide's size, 16 variable rules, 32 fixed ones, 8 sites per combination
abbrev pub too_large : ℕ → List ℕ → List ℕ → ℕ → Bool
too_large len variable fixed limit = wrong_size len || ltb (most_rules false) (length variable / 8) || ltb (most_rules true) (length fixed / 8) || ltb 8 limit

-- 8
abbrev pub not_whole : List ℕ → List ℕ → Bool
not_whole variable fixed = not (eqb (length variable % 8) 0 && eqb (length fixed % 8) 0)

-- 9: the first record that is no rule
unfoldable pub tested_lists : List ℕ → List ℕ → Tested
tested_lists variable fixed = and_then (field_tested (first_bad_rule false variable) (length variable / 8)) (field_tested (first_bad_rule true fixed) (length fixed / 8))
