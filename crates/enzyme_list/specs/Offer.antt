-- A range that is offered to the list: what a call asks, answers and leaves. The public statement does not cite this.
use Rattle.std.specs.Prelude.{ℕ, ◌+◌, ◌*◌, ◌≤◌, ◌≡◌, Bool, true, false, ◌⊎◌, List, [], ◌∷◌, ◌++◌, length}
use Rattle.lists.specs.Lists.{same}
use Rattle.enzyme_cuts.specs.Cutting.{Range, part}
use Rattle.enzyme_cuts.specs.Work.{RangesWithin}
use Rattle.enzyme_keep.specs.declared.offering.Terms.{Terms}
use Rattle.enzyme_keep.specs.Buffer.{ranges_in, links_in}
use Rattle.enzyme_keep.specs.Steps.{digest_room, unless_full, offers, untold}
use Rattle.enzyme_list.specs.declared.offering.Run.{Run}
use Rattle.enzyme_list.specs.Chain.{LinkedThrough, ListFrom, Tells}
use Rattle.enzyme_list.specs.Tally.{seen_at, added_by, Tally}

-- out holds count whole records, whose ranges lie within the letters, and a list of records from head on
pub record Keeps (s : List ℕ) (count head : ℕ) (out : List ℕ) : Type 0 where
  pub small : length s ≤ 65536
  pub capped : count ≤ 1048576
  pub fits : 20 * count ≤ length out
  pub inside : RangesWithin (length s) (ranges_in count out)
  pub c : List ℕ
  pub listed : ListFrom s (ranges_in count out) (links_in count out) head c

-- the list tells whether a record has the letters new
abbrev pub ListTells : List ℕ → ℕ → ℕ → List ℕ → List ℕ → Type 0
ListTells s count head out new = (c : List ℕ) → ListFrom s (ranges_in count out) (links_in count out) head c → Tells s (ranges_in count out) c new

abbrev pub run : ℕ → ℕ → Bool → Run
run count head full = record { count = count; head = head; full = full }

-- record t is in the list
pub record Has (count head : ℕ) (out : List ℕ) (t : ℕ) : Type 0 where
  pub xs : List ℕ
  pub ys : List ℕ
  pub linked : LinkedThrough (links_in count out) head (xs ++ (t ∷ ys))

-- the ranges of the records are ks still, or r stands behind them
abbrev pub Grown : List Range → Range → Run → List ℕ → Type 0
Grown ks r at out = (ranges_in at.count out ≡ ks) ⊎ (ranges_in at.count out ≡ ks ++ (r ∷ []))

-- there are as many records as there is room for, where there was no room for one more
abbrev pub Brimming : ℕ → Bool → List ℕ → Type 0
Brimming count full out = full ≡ true → count ≡ digest_room out

-- the range r, which stands for `times`, was offered to count records in out: that gave at, and left out'; the list has what it had and
-- tells of what it told
pub record Came (s : List ℕ) (t : Terms) (r : Range) (times count head : ℕ) (full : Bool) (out : List ℕ) (at : Run) (out' : List ℕ) : Type 0 where
  pub view : seen_at t at.count at.full out' ≡ unless_full (seen_at t count full out) (offers s t untold (r ∷ []))
  pub next : Keeps s at.count at.head out'
  pub brims : Brimming at.count at.full out'
  pub knows : (new : List ℕ) → ListTells s count head out new → ListTells s at.count at.head out' new
  pub has : (u : ℕ) → Has count head out u → Has at.count at.head out' u
  pub grown : Grown (ranges_in count out) r at out'
  pub tells : (T : List ℕ → ℕ) → Tally s t count full out T → Tally s t at.count at.full out' (λ x. T x + added_by s t r times x)

-- the same of a range that is not linked in: the list tells of all other letters that it told of
pub record CameUnlinked (s : List ℕ) (t : Terms) (r : Range) (times count head : ℕ) (full : Bool) (out : List ℕ) (at : Run) (out' : List ℕ) : Type 0 where
  pub view : seen_at t at.count at.full out' ≡ unless_full (seen_at t count full out) (offers s t untold (r ∷ []))
  pub next : Keeps s at.count at.head out'
  pub brims : Brimming at.count at.full out'
  pub knows : (new : List ℕ) → same (part s r) new ≡ false → ListTells s count head out new → ListTells s at.count at.head out' new
  pub has : (u : ℕ) → Has count head out u → Has at.count at.head out' u
  pub grown : Grown (ranges_in count out) r at out'
  pub tells : (T : List ℕ → ℕ) → Tally s t count full out T → Tally s t at.count at.full out' (λ x. T x + added_by s t r times x)
