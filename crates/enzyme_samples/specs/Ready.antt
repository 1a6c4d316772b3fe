-- Ranges that are each offered once: what a call asks, answers and leaves. The public statement does not cite this.
use Rattle.std.specs.Prelude.{ℕ, ◌+◌, ◌-◌, ◌≤◌, ◌≡◌, true, false, List, [], ◌∷◌, ◌++◌, length, get_or}
use Rattle.enzyme_cuts.specs.Cutting.{Range, site, part}
use Rattle.enzyme_cuts.specs.Work.{RangesWithin}
use Rattle.enzyme_keep.specs.declared.offering.Terms.{Terms}
use Rattle.enzyme_keep.specs.Buffer.{ranges_in}
use Rattle.enzyme_keep.specs.Steps.{Step, After, digest_room, unless_full, offers, untold}
use Rattle.enzyme_words.specs.Words.{Far}
use Rattle.enzyme_once.specs.DistinctLaws.{NoRangeTwice}
use Rattle.enzyme_list.specs.Tally.{step_at, seen_at, added_by, Tally}
use Rattle.enzyme_list.specs.Offer.{Keeps, ListTells}
use Rattle.enzyme_search.specs.Marks.{SamplesListed}
use Rattle.enzyme_samples.specs.declared.offering.Run.{Run}
use Rattle.enzyme_samples.specs.declared.offering.Source.{Source}

abbrev pub run_started : Run
run_started = record { count = 0; head = 0; samples = 0; limit = 8; full = false }

-- a range, and how many it stands for
pub record Weighted : Type 0 where
  pub range : Range
  pub times : ℕ

abbrev pub weighted : Range → ℕ → Weighted
weighted r times = record { range = r; times = times }

abbrev pub ranges : List Weighted → List Range
ranges [] = []
ranges (w ∷ ws) = w.range ∷ ranges ws

-- ranges that each stand for as many
abbrev pub loaded : ℕ → List Range → List Weighted
loaded times [] = []
loaded times (r ∷ rs) = weighted r times ∷ loaded times rs

-- what ranges add to the letters x: the weights of those that have them, of a length within the limits
abbrev pub added : List ℕ → Terms → List Weighted → List ℕ → ℕ
added s t [] x = 0
added s t (w ∷ ws) x = added_by s t w.range w.times x + added s t ws x

-- the ranges ws may be offered: they lie within the letters, no two of them and of the records are the same; the list tells of
-- what may stand at two places
pub record RangesReady (s f : List ℕ) (ws : List Weighted) (run : Run) (out marks : List ℕ) : Type 0 where
  pub keeps : Keeps s run.count run.head out
  pub far : Far s f
  pub knows : (a e : ℕ) → a ≤ e → e ≤ length s → e - a ≤ get_or f a 0 → ListTells s run.count run.head out (part s (site a e))
  pub marked : SamplesListed run.count run.head out marks run.samples
  pub inside : RangesWithin (length s) (ranges ws)
  pub once : NoRangeTwice (ranges_in run.count out ++ ranges ws)
  pub brims : run.full ≡ true → run.count ≡ digest_room out

abbrev pub run_step : Run → Step
run_step run = step_at run.count run.full

-- the records, but for links and numbers
abbrev pub seen_as : Terms → Run → List ℕ → After
seen_as t run out = seen_at t run.count run.full out

-- each record has the number of its letters, which T says; of letters that no record has there is none, unless there was no room
abbrev pub Tallied : List ℕ → Terms → Run → List ℕ → (List ℕ → ℕ) → Type 0
Tallied s t run out T = Tally s t run.count run.full out T

-- the ranges ws were offered: that gave run', and left out' and marks'; what was ready to be offered behind them is so still; the records
-- have what the ranges add
pub record Offers (s f : List ℕ) (t : Terms) (ws : List Weighted) (run : Run) (out marks : List ℕ) (run' : Run) (out' marks' : List ℕ) : Type 0 where
  pub view : seen_as t run' out' ≡ unless_full (seen_as t run out) (offers s t untold (ranges ws))
  pub next : (rest : List Weighted) → RangesReady s f (ws ++ rest) run out marks → RangesReady s f rest run' out' marks'
  pub tells : (T : List ℕ → ℕ) → Tallied s t run out T → Tallied s t run' out' (λ x. T x + added s t ws x)

-- the same of what ranges are offered of
abbrev pub ReadyOf : Source → List Weighted → Run → List ℕ → List ℕ → Type 0
ReadyOf source = RangesReady source.letters.now source.far.now

abbrev pub OffersOf : Source → List Weighted → Run → List ℕ → List ℕ → Run → List ℕ → List ℕ → Type 0
OffersOf source = Offers source.letters.now source.far.now source.terms

-- the list is the same, whatever became of the samples
pub record Noted (run : Run) (out marks : List ℕ) (r : Run) : Type 0 where
  pub count : r.count ≡ run.count
  pub head : r.head ≡ run.head
  pub full : r.full ≡ run.full
  pub marked : SamplesListed run.count run.head out marks r.samples
