-- What `names_tested_in` makes of a lent table. The contract of that part cites this; no entry's does.
use Rattle.std.specs.Prelude.{ℕ, ◌+◌, ◌≡◌, cond, not, ◌&&◌, List, [], ◌∷◌, length, leb}
use Rattle.records.specs.Outcome.{Outcome, outcome, only}
use Rattle.catalogue_repeats.specs.Repeating.{cleared}
use Rattle.catalogue_spec.specs.Names.{name_count, too_many_names, whole_names, catalogue_tested}
use Rattle.records.specs.Answers.{Tested}

-- the same tests with a lent table, which is used where there are names to compare and it has two numbers for each
abbrev pub names_outcome : List ℕ → List ℕ → Outcome Tested
names_outcome names tab =
    outcome (catalogue_tested names)
    (cond (not (too_many_names names) && whole_names names && leb (name_count names + name_count names) (length tab)) (cleared (name_count names) tab) tab ∷ [])

-- no second answer and no second contents meet the contract of `names_tested_in`
pub names_only : (names tab : List ℕ) (r q : Tested) (k l : List (List ℕ)) → outcome r k ≡ names_outcome names tab → outcome q l ≡ names_outcome names tab → (r ≡ q) × (k ≡ l)
names_only names tab r q k l = only r q k l (names_outcome names tab)
