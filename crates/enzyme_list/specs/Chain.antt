-- A list of records that rises: its links, where a range belongs in it. The public statement does not cite this.
use Rattle.std.specs.Prelude.{ℕ, zero, suc, ◌-◌, ◌≤◌, ◌<◌, ◌≡◌, Bool, cond, true, false, List, [], ◌∷◌, ◌++◌, length, get_or, set, eqb}
use Rattle.enzyme_cuts.specs.Cutting.{Range, site, part, seen_in}
use Rattle.enzyme_list.specs.declared.walk.Place.{Place}
use Rattle.enzyme_list.specs.declared.walk.Place.TheVariants.{Same, Behind}
use Rattle.std.specs.declared.cmp.Ordering.TheVariants.{Less}
use Rattle.enzyme_order.specs.Order.{compared}

-- the letters of record t; records are numbered from 1
abbrev pub record_text : List ℕ → List Range → ℕ → List ℕ
record_text s ks t = part s (get_or ks (t - 1) (site 0 0))

-- the record behind record p, or the first one for 0
abbrev pub next_of : List ℕ → ℕ → ℕ → ℕ
next_of ls head p = cond (eqb p 0) head (get_or ls (p - 1) 0)

-- the links lead from h through these records to 0
abbrev pub LinkedThrough : List ℕ → ℕ → List ℕ → Type 0
LinkedThrough ls h [] = h ≡ 0
LinkedThrough ls h (t ∷ ts) = (h ≡ t) × (0 < t) × (t ≤ length ls) × LinkedThrough ls (get_or ls (t - 1) 0) ts

-- the last of the records, or p
abbrev pub last_record : ℕ → List ℕ → ℕ
last_record p [] = p
last_record p (t ∷ ts) = last_record t ts

-- each record is below the letters new; the letters new are below each
abbrev pub Lower : List ℕ → List Range → List ℕ → List ℕ → Type 0
Lower s ks new [] = Unit {0}
Lower s ks new (t ∷ ts) = (compared (record_text s ks t) new ≡ Less) × Lower s ks new ts

abbrev pub Upper : List ℕ → List Range → List ℕ → List ℕ → Type 0
Upper s ks new [] = Unit {0}
Upper s ks new (t ∷ ts) = (compared new (record_text s ks t) ≡ Less) × Upper s ks new ts

-- each record is below all behind it
abbrev pub Rises : List ℕ → List Range → List ℕ → Type 0
Rises s ks [] = Unit {0}
Rises s ks (t ∷ ts) = Upper s ks (record_text s ks t) ts × Rises s ks ts

-- the list from head on: these records, no more than there are
pub record ListFrom (s : List ℕ) (ks : List Range) (ls : List ℕ) (head : ℕ) (c : List ℕ) : Type 0 where
  pub linked : LinkedThrough ls head c
  pub rises : Rises s ks c
  pub few : length c ≤ length ls

-- their ranges
abbrev pub ranges_of : List Range → List ℕ → List Range
ranges_of ks [] = []
ranges_of ks (t ∷ ts) = get_or ks (t - 1) (site 0 0) ∷ ranges_of ks ts

-- a place between those below and those above
pub record Between (s : List ℕ) (ks : List Range) (new c : List ℕ) (p : ℕ) : Type 0 where
  pub xs : List ℕ
  pub ys : List ℕ
  pub whole : c ≡ xs ++ ys
  pub last : last_record 0 xs ≡ p
  pub lower : Lower s ks new xs
  pub upper : Upper s ks new ys

-- record u of the list has the letters new
pub record FoundAt (s : List ℕ) (ks : List Range) (new c : List ℕ) (u : ℕ) : Type 0 where
  pub xs : List ℕ
  pub ys : List ℕ
  pub whole : c ≡ xs ++ (u ∷ ys)
  pub letters : record_text s ks u ≡ new

-- what a search of the list comes to
abbrev pub FoundIn : List ℕ → List Range → List ℕ → List ℕ → Place → Type 0
FoundIn s ks new c (Same u) = FoundAt s ks new c u
FoundIn s ks new c (Behind p) = Between s ks new c p

-- what a search from cur on, behind prev, comes to
abbrev pub FoundFrom : List ℕ → List Range → List ℕ → List ℕ → ℕ → ℕ → Place → Type 0
FoundFrom s ks ls new prev cur r =
    (xs ys : List ℕ) → last_record 0 xs ≡ prev → Lower s ks new xs → LinkedThrough ls cur ys → Rises s ks ys → FoundIn s ks new (xs ++ ys) r

-- what a search of the list from head on comes to
abbrev pub Sought : List ℕ → List Range → List ℕ → ℕ → List ℕ → Place → Type 0
Sought s ks ls head new r = (c : List ℕ) → ListFrom s ks ls head c → FoundIn s ks new c r

-- the links lead from t to 0 in at most n steps
abbrev pub EndsWithin : List ℕ → ℕ → ℕ → Type 0
EndsWithin ls n t = (ys : List ℕ) × LinkedThrough ls t ys × (length ys ≤ n)

-- the list, with record p in it and below the letters new, or 0 for p
pub record Begun (s : List ℕ) (ks : List Range) (ls : List ℕ) (head p : ℕ) (new : List ℕ) : Type 0 where
  pub c : List ℕ
  pub listed : ListFrom s ks ls head c
  pub xs : List ℕ
  pub ys : List ℕ
  pub whole : c ≡ xs ++ ys
  pub last : last_record 0 xs ≡ p
  pub lower : Lower s ks new xs

-- how many steps lead from t to 0, if at most n do
abbrev pub depth : List ℕ → ℕ → ℕ → ℕ
depth ls t zero = 0
depth ls t (suc n) = cond (eqb t 0) 0 (suc (depth ls (get_or ls (t - 1) 0) n))

-- a place in the list for the letters new
pub record PlaceFor (s : List ℕ) (ks : List Range) (ls : List ℕ) (head p : ℕ) (new : List ℕ) : Type 0 where
  pub c : List ℕ
  pub listed : ListFrom s ks ls head c
  pub between : Between s ks new c p

-- the links and the first record, with one more record behind record p
abbrev pub links_with : List ℕ → ℕ → ℕ → List ℕ
links_with ls head p = cond (eqb p 0) (ls ++ (next_of ls head p ∷ [])) (set (ls ++ (next_of ls head p ∷ [])) (p - 1) (suc (length ls)))

abbrev pub head_with : List ℕ → ℕ → ℕ → ℕ
head_with ls head p = cond (eqb p 0) (suc (length ls)) head

-- the list tells whether a record has the letters new
abbrev pub Tells : List ℕ → List Range → List ℕ → List ℕ → Type 0
Tells s ks c new = seen_in s ks new ≡ seen_in s (ranges_of ks c) new

-- whether a search found the letters
abbrev pub is_same : Place → Bool
is_same (Same u) = true
is_same (Behind p) = false
