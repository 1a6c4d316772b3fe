-- Ranges that are offered to the buffer one after the other: what a call asks, answers and leaves. The public statement
-- does not cite this.
use Rattle.std.specs.Prelude.{ℕ, ◌+◌, ◌*◌, ◌≡◌, Bool, true, cond, List, [], ◌∷◌, length, ltb, Option, Some, None}
use Rattle.std.proofs.lemmas.List.Edits.{sets}
use Rattle.records.specs.Room.{room_of}
use Rattle.enzyme_cuts.specs.Cutting.{Range, wanted, part, having}
use Rattle.enzyme_keep.specs.declared.offering.Terms.{Terms}
use Rattle.enzyme_keep.specs.Digests.{record_of}
use Rattle.enzyme_keep.specs.Buffer.{ranges_in, bared, retold}

-- what it answers, or why not
abbrev pub Step : Type 0
Step = Option ℕ

-- a digest takes 20 bytes, and a list holds at most 1,048,576
abbrev pub digest_room : List ℕ → ℕ
digest_room out = room_of 20 1048576 out

-- a step, and the bytes behind it
pub record After : Type 0 where
  pub step : Step
  pub bytes : List ℕ

abbrev pub after : Step → List ℕ → After
after r bytes = record { step = r; bytes = bytes }

-- with the two tests: a wanted range is written where there is room
abbrev pub decided : Bool → Bool → ℕ → List ℕ → List ℕ → After
decided want free count out new =
    cond want (cond free (after (Some (count + 1)) (sets out (20 * count) new)) (after None out)) (after (Some count) out)

-- one range, of which f says how often its letters occur
unfoldable pub offered : List ℕ → Terms → (Range → ℕ) → Range → ℕ → List ℕ → After
offered s t f r count out =
    decided (wanted s t.minimum t.maximum (ranges_in count out) r) (ltb count (digest_room out)) count out (record_of (length s) t.protein r (f r))

-- what comes after: the next ranges, or nothing where there was no room
abbrev pub unless_full : After → (ℕ → List ℕ → After) → After
unless_full a next = go a.step
  where
    go : Step → After
    go (Some count) = next count a.bytes
    go None = a

-- a list of ranges, one after the other
abbrev pub offers : List ℕ → Terms → (Range → ℕ) → List Range → ℕ → List ℕ → After
offers s t f [] count out = after (Some count) out
offers s t f (r ∷ rs) count out = unless_full (offered s t f r count out) (offers s t f rs)

-- the records of all the ranges, one after the other, where there is room; f says how often the letters of each occur
abbrev pub puts : ℕ → ℕ → (Range → ℕ) → List Range → ℕ → List ℕ → After
puts n p f [] count out = after (Some count) out
puts n p f (r ∷ rs) count out = unless_full (decided true (ltb count (digest_room out)) count out (record_of n p r (f r))) (puts n p f rs)

-- how many of the ranges rs have the letters of r
abbrev pub among : List ℕ → List Range → Range → ℕ
among s rs r = having s rs (part s r)

-- ---- with links in the place of the protein, and numbers that are not known yet

-- how many records stand
abbrev pub standing : Step → List ℕ → ℕ
standing (Some k) out = k
standing None out = digest_room out

-- no number
abbrev pub untold : Range → ℕ
untold r = 0

-- the ranges rs were offered to count records in out: that gave r, and left out', but for the links and the numbers
abbrev pub View : List ℕ → Terms → List Range → ℕ → List ℕ → Step → List ℕ → Type 0
View s t rs count out r out' = after r (bared t.protein (standing r out') out') ≡ offers s t untold rs count (bared t.protein count out)

-- a step, and the bytes with f of its range in each record that stands
abbrev pub telling : (Range → ℕ) → After → After
telling f a = after a.step (retold f (standing a.step a.bytes) a.bytes)
