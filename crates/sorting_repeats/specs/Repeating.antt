-- What `first_repeated` makes of a lent slice. The contract of that part cites this; no entry's does.
use Rattle.std.specs.Prelude.{ℕ, ◌+◌, ◌/◌, Bool, cond, ◌&&◌, List, [], ◌∷◌, ◌++◌, leb, ltb, length, drop, replicate, Option, Some, None, Result, Ok, Err}
use Rattle.records.specs.Outcome.{Outcome, outcome}
use Rattle.sorting_texts.specs.declared.text.Unfit.{Unfit}
use Rattle.sorting_texts.specs.Text.{unfit}
use Rattle.sorting_spec.specs.Joined.{name_of}
use Rattle.sorting_spec.specs.Repeats.{first_repeat}

-- where a name first stands again, or that none does; or that the lent slice is too short
abbrev pub Repeated : Type 0
Repeated = Result (Option ℕ) Unfit

-- n names are counted by u32, and need two numbers each
abbrev pub roomy : ℕ → List ℕ → Bool
roomy n w = leb n 4294967295 && leb (n + n) (length w)

abbrev pub repeated_at : ℕ → ℕ → Repeated
repeated_at n r = cond (ltb r n) (Ok (Some r)) (Ok None)

-- the numbers that were needed are zero
abbrev pub repeat_outcome : List ℕ → List ℕ → Outcome Repeated
repeat_outcome names w =
    let n = length names / 64 in
    cond (roomy n w)
    (outcome (repeated_at n (first_repeat (name_of names) n)) ((replicate (n + n) 0 ++ drop (n + n) w) ∷ []))
    (outcome (Err unfit) (w ∷ []))
