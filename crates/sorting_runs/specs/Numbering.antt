-- What `number_runs` makes of a lent slice.
use Rattle.std.specs.Prelude.{ℕ, ◌+◌, ◌-◌, Bool, cond, ◌&&◌, List, [], ◌∷◌, ◌++◌, leb, length, take, drop, Result, Ok, Err}
use Rattle.std.proofs.Math.Seq.{slice}
use Rattle.records.specs.Outcome.{Outcome, outcome}
use Rattle.sorting_texts.specs.declared.text.By.{By}
use Rattle.sorting_texts.specs.declared.text.Unfit.{Unfit}
use Rattle.sorting_texts.specs.Text.{le_by, unfit}
use Rattle.sorting_slices.specs.Sorting.{fitting}
use Rattle.sorting_spec.specs.Runs.{runs_of, run_numbers}

-- how many runs there are, or that the lent slice does not hold what is asked
abbrev pub Numbered : Type 0
Numbered = Result ℕ Unfit

-- whether in a slice of n numbers the stretch, the numbers of its runs from `to` on, and the keys stand one behind the other; runs are counted by u32
abbrev pub numberable : ℕ → ℕ → ℕ → ℕ → ℕ → Bool
numberable lo hi to e n = fitting lo hi to e n && leb (hi - lo) 4294967295

-- the slice with the numbers of the runs of the stretch, which is sorted, from `to` on
abbrev pub numbered : By → List ℕ → ℕ → ℕ → ℕ → ℕ → List ℕ → List ℕ
numbered by letters lo hi to e w =
    take to w ++ run_numbers (le_by by letters (drop e w)) (slice lo hi w) ++ drop (to + (hi - lo)) w

-- how many runs there are, and their numbers
abbrev pub numbers_outcome : By → List ℕ → ℕ → ℕ → ℕ → ℕ → List ℕ → Outcome Numbered
numbers_outcome by letters lo hi to e w =
    cond (numberable lo hi to e (length w))
    (outcome (Ok (length (runs_of (le_by by letters (drop e w)) (slice lo hi w)))) (numbered by letters lo hi to e w ∷ []))
    (outcome (Err unfit) (w ∷ []))
