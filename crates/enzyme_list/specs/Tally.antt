-- How often letters were offered, and what the records say of it. The public statement does not cite this.
use Rattle.std.specs.Prelude.{ℕ, ◌+◌, ◌-◌, ◌*◌, ◌%◌, ◌<◌, ◌≡◌, Bool, true, false, cond, ◌&&◌, List, Some, None}
use Rattle.std.proofs.lemmas.List.Edits.{sets}
use Rattle.lists.specs.Lists.{same}
use Rattle.records.specs.Le.{le, number_at}
use Rattle.enzyme_cuts.specs.Cutting.{Range, part, seen_in, within}
use Rattle.enzyme_keep.specs.declared.offering.Terms.{Terms}
use Rattle.enzyme_keep.specs.Buffer.{range_at, ranges_in, bared, times_at}
use Rattle.enzyme_keep.specs.Steps.{Step, After, after, standing}

-- there are count records, or there was no room for one more
abbrev pub step_at : ℕ → Bool → Step
step_at count full = cond full None (Some count)

-- the records, but for links and numbers
abbrev pub seen_at : Terms → ℕ → Bool → List ℕ → After
seen_at t count full out = after (step_at count full) (bared t.protein (standing (step_at count full) out) out)

-- what the range r, which stands for `times`, adds to the letters x
abbrev pub added_by : List ℕ → Terms → Range → ℕ → List ℕ → ℕ
added_by s t r times x = cond (within t.minimum t.maximum (r.to - r.from) && same (part s r) x) times 0

-- the bytes with `times` more in the number of record u, which is numbered from 1
abbrev pub times_added : List ℕ → ℕ → ℕ → List ℕ
times_added out u times = sets out (20 * (u - 1) + 16) (le 4 ((number_at 4 out (20 * (u - 1) + 16) + times) % 4294967296))

-- each record has the number of its letters, which T says; of letters that no record has there is none, unless there was no room
pub record Tally (s : List ℕ) (t : Terms) (count : ℕ) (full : Bool) (out : List ℕ) (T : List ℕ → ℕ) : Type 0 where
  pub told : (k : ℕ) → k < count → times_at k out ≡ le 4 (T (part s (range_at out (20 * k))))
  pub fit : (k : ℕ) → k < count → within t.minimum t.maximum ((range_at out (20 * k)).to - (range_at out (20 * k)).from) ≡ true
  pub differ : (i j : ℕ) → i < j → j < count → part s (range_at out (20 * i)) ≡ part s (range_at out (20 * j)) → ⊥
  pub none : full ≡ false → (x : List ℕ) → seen_in s (ranges_in count out) x ≡ false → T x ≡ 0
