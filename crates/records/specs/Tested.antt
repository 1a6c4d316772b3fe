-- Tests one after the other.
use Rattle.std.specs.Prelude.{ℕ, cond, ltb, Ok, Err}
use Rattle.records.specs.declared.refusal.Refusal.TheVariants.{Field}
use Rattle.records.specs.Answers.{Tested, Passed}

-- a test, and where it passed the next one
abbrev pub and_then : Tested → Tested → Tested
and_then (Ok _) next = next
and_then (Err why) next = Err why

-- 9: the first bad field of so many stands at this place; at the count it stands nowhere
abbrev pub field_tested : ℕ → ℕ → Tested
field_tested bad count = cond (ltb bad count) (Err (Field bad)) Passed
