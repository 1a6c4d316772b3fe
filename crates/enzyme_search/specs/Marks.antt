-- Samples of the list of records. They are only advice: what the code needs of them is that each is a record of the list. The
-- public statement does not cite this.
use Rattle.std.specs.Prelude.{ℕ, ◌+◌, ◌-◌, ◌*◌, ◌≤◌, ◌<◌, ◌≡◌, cond, ◌⊎◌, List, length, get_or, eqb}
use Rattle.lists.specs.FrameLaws.{Framed}
use Rattle.enzyme_cuts.specs.Cutting.{Range}
use Rattle.enzyme_keep.specs.Buffer.{links_in}
use Rattle.std.specs.declared.cmp.Ordering.TheVariants.{Less}
use Rattle.enzyme_order.specs.Order.{compared}
use Rattle.enzyme_list.specs.Chain.{record_text, LinkedThrough}
use Rattle.enzyme_list.specs.Offer.{Has}

-- a sample takes three numbers of marks, its record is the first of them
abbrev pub mark_at : List ℕ → ℕ → ℕ
mark_at marks i = get_or marks (3 * i) 0

-- the record of sample k, numbered from 1; 0 for none
abbrev pub sample_of : List ℕ → ℕ → ℕ
sample_of marks k = cond (eqb k 0) 0 (mark_at marks (k - 1))

-- each sample is a record of the list
pub record SamplesListed (count head : ℕ) (out marks : List ℕ) (samples : ℕ) : Type 0 where
  pub room : 3 * samples ≤ length marks
  pub listed : (i : ℕ) → i < samples → Has count head out (mark_at marks i)

-- so it is one of the first count
pub record SamplesNumbered (count : ℕ) (marks : List ℕ) (samples : ℕ) : Type 0 where
  pub room : 3 * samples ≤ length marks
  pub some : (i : ℕ) → i < samples → 0 < mark_at marks i
  pub few : (i : ℕ) → i < samples → mark_at marks i ≤ count

-- sample r is below the letters new, or r is 0
pub record Below (s : List ℕ) (ks : List Range) (marks : List ℕ) (samples : ℕ) (new : List ℕ) (r : ℕ) : Type 0 where
  pub within : r ≤ samples
  pub below : 0 < r → compared (record_text s ks (mark_at marks (r - 1))) new ≡ Less

-- there is a list from head on
abbrev pub Chained : ℕ → ℕ → List ℕ → Type 0
Chained count head out = (c : List ℕ) × LinkedThrough (links_in count out) head c

-- t is a record of the list, or 0
abbrev pub Has0 : ℕ → ℕ → List ℕ → ℕ → Type 0
Has0 count head out t = 0 < t → Has count head out t

-- the samples are the same
pub record SameSamples (old new : List ℕ) : Type 0 where
  pub long : length new ≡ length old
  pub marks : (i : ℕ) → mark_at new i ≡ mark_at old i

-- there are n of them, of those that were or t; sample k is one of them, or the first for 0
pub record First (old : List ℕ) (samples t k : ℕ) (new : List ℕ) (n : ℕ) : Type 0 where
  pub long : length new ≡ length old
  pub room : 3 * n ≤ length old
  pub there : k - 1 < n
  pub marks : (i : ℕ) → i < n → (mark_at new i ≡ t) ⊎ ((i < samples) × (mark_at new i ≡ mark_at old i))

-- the numbers from low to high are three places on
pub record MovedUp (old : List ℕ) (low high : ℕ) (new : List ℕ) : Type 0 where
  pub long : length new ≡ length old
  pub rest : Framed low (high + 3) old new
  pub on : (x : ℕ) → low ≤ x → x < high → get_or new (x + 3) 0 ≡ get_or old x 0

-- one more, t
pub record PutIn (old : List ℕ) (samples t : ℕ) (new : List ℕ) : Type 0 where
  pub long : length new ≡ length old
  pub marks : (i : ℕ) → i < samples + 1 → (mark_at new i ≡ t) ⊎ ((j : ℕ) × (j < samples) × (mark_at new i ≡ mark_at old j))

-- every second one
pub record Thinned (old : List ℕ) (samples n : ℕ) (new : List ℕ) : Type 0 where
  pub long : length new ≡ length old
  pub few : (i : ℕ) → i < n → 2 * i < samples
  pub marks : (i : ℕ) → i < n → mark_at new i ≡ mark_at old (2 * i)

-- the same of the first n, where those behind are not read yet
pub record Thinning (old : List ℕ) (samples n : ℕ) (new : List ℕ) : Type 0 where
  pub done : Thinned old samples n new
  pub rest : (i : ℕ) → n ≤ i → mark_at new i ≡ mark_at old i
