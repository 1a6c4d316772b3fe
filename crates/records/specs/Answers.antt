-- What calls answer: nothing where tests passed, or a number of records; or the refusal.
use Rattle.std.specs.Prelude.{ℕ, Result, Ok}
use Rattle.records.specs.declared.refusal.Refusal.{Refusal}

-- what tests find: the first refusal, or none
abbrev pub Tested : Type 0
Tested = Result Unit Refusal

abbrev pub Passed : Tested
Passed = Ok tt

-- how many records were written, or why the call said no
abbrev pub Counted : Type 0
Counted = Result ℕ Refusal
