-- Worked cases: what a definition gives and what is said of it, so that the cases of every crate stand in one table.
use Rattle.std.specs.Prelude.{ℕ, ◌≡◌, List, [], ◌∷◌, map, Ok, Err}
use Rattle.records.specs.Refusals.{number_of, place_of}
use Rattle.records.specs.Outcome.{Outcome}
use Rattle.records.specs.Answers.{Counted}

pub record Case : Type 0 where
  pub got : List (List ℕ)
  pub want : List (List ℕ)

abbrev pub got_of : Case → List (List ℕ)
got_of c = c.got

abbrev pub want_of : Case → List (List ℕ)
want_of c = c.want

abbrev pub Hold : List Case → Type 0
Hold cs = map got_of cs ≡ map want_of cs

-- ---- what a call leaves, in numbers: the answer's, refusal 0 being none, and then each lent slice

abbrev pub answered : ℕ → List ℕ
answered n = 0 ∷ 0 ∷ n ∷ []

abbrev pub refused_as : ℕ → ℕ → List ℕ
refused_as number place = number ∷ place ∷ []

abbrev pub numbers : Counted → List ℕ
numbers (Ok n) = answered n
numbers (Err why) = refused_as (number_of why) (place_of why)

abbrev pub told : Outcome Counted → List (List ℕ)
told o = numbers o.answer ∷ o.lent
