-- Every range that the code offers lies within the letters. Assumes nothing.
use Rattle.std.specs.Prelude.{ℕ, zero, suc, ◌+◌, ◌-◌, ◌≤◌, ◌≡◌, refl, Bool, true, false, cond, List, [], ◌∷◌, ◌++◌, length, drop}
use Rattle.std.proofs.Common.{sym, subst, arith, length-take, length-drop}
use Rattle.enzyme_cuts.specs.declared.kinds.Side.{Side}
use Rattle.enzyme_cuts.specs.declared.kinds.Side.TheVariants.{C, N}
use Rattle.enzyme_cuts.specs.declared.kinds.Kind.{Kind}
use Rattle.enzyme_cuts.specs.declared.kinds.Kind.TheVariants.{None, End, Set}
use Rattle.enzyme_cuts.specs.declared.kinds.Enzyme.{Enzyme}
use Rattle.enzyme_cuts.specs.declared.kinds.Knife.{Knife}
use Rattle.enzyme_cuts.specs.Cutting.{Range, site, knife, meant, cut_of, cuts_at, set_sites, zip, windows, windows_from, halves, starting, of_length, of_lengths, part}
use Rattle.enzyme_cuts.specs.Work.{RangesWithin, inner_halves, parts_of, all_parts, set_windows, set_work, work_of, work, tail_of}

-- ranges that follow one another from lo on, within n
abbrev Chain : ℕ → ℕ → List Range → Type 0
Chain n lo [] = Unit {0}
Chain n lo (r ∷ rs) = (lo ≤ r.from) × (r.from ≤ r.to) × (r.to ≤ n) × Chain n r.to rs

cut_bounds : (side : Side) (i : ℕ) → (i ≤ cut_of side i) × (cut_of side i ≤ suc i)
cut_bounds C i = (omega arith, omega arith)
cut_bounds N i = (omega arith, omega arith)

sites_chain : (k : Knife) (n left i : ℕ) (bs : List ℕ) → left ≤ i → i + length bs ≤ n → Chain n left (set_sites k left i bs)
sites_chain k n left i [] h j = (omega arith, h, omega arith, tt)
sites_chain k n left i (b ∷ bs) h j =
    go (cuts_at k b bs) (cut_bounds k.side i) (λ lo g. sites_chain k n lo (suc i) bs g (omega arith))
  where
    go : (t : Bool) → (i ≤ cut_of k.side i) × (cut_of k.side i ≤ suc i) → ((lo : ℕ) → lo ≤ suc i → Chain n lo (set_sites k lo (suc i) bs))
        → Chain n left (cond t (site left (cut_of k.side i) ∷ set_sites k (cut_of k.side i) (suc i) bs) (set_sites k left (suc i) bs))
    go true b ih = let l = b.0 in let u = b.1 in (omega arith, omega arith, omega arith, ih (cut_of k.side i) u)
    go false b ih = ih left (omega arith)

chain_weaken : (n a b : ℕ) (rs : List Range) → a ≤ b → Chain n b rs → Chain n a rs
chain_weaken n a b [] h c = tt
chain_weaken n a b (r ∷ rs) h c = let x = c.0 in (omega arith, c.1, c.2, c.3)

chain_drop : (n lo m : ℕ) (rs : List Range) → Chain n lo rs → Chain n lo (drop m rs)
chain_drop n lo zero rs c = c
chain_drop n lo (suc m) [] c = tt
chain_drop n lo (suc m) (r ∷ rs) c = let x = c.0 in let y = c.1 in chain_drop n lo m rs (chain_weaken n lo r.to rs (omega arith) c.3)

drop_tail : (m : ℕ) (r : Range) (rs : List Range) → tail_of (drop m (r ∷ rs)) ≡ drop m rs
drop_tail zero r rs = refl
drop_tail (suc m) r [] = nil m
  where
    nil : (m : ℕ) → tail_of (drop m []) ≡ []
    nil zero = refl
    nil (suc m) = refl
drop_tail (suc m) r (x ∷ rs) = drop_tail m x rs

windows_inside : (n lo k m : ℕ) (rs : List Range) → Chain n lo rs → RangesWithin n (zip k rs (drop m rs))
windows_inside n lo k m [] c = tt
windows_inside n lo k m (r ∷ rs) c =
    go (drop m (r ∷ rs)) (chain_drop n r.from m (r ∷ rs) (chain_weaken' c)) (drop_tail m r rs) (windows_inside n r.to k m rs c.3)
  where
    chain_weaken' : Chain n lo (r ∷ rs) → Chain n r.from (r ∷ rs)
    chain_weaken' c = (omega arith, c.1, c.2, c.3)

    go : (qs : List Range) → Chain n r.from qs → tail_of qs ≡ drop m rs → RangesWithin n (zip k rs (drop m rs)) → RangesWithin n (zip k (r ∷ rs) qs)
    go [] d e ih = tt
    go (q ∷ qs) d e ih =
        let x = d.0 in
        let y = d.1 in
        (omega arith, d.2, subst (λ (l : List Range). RangesWithin n (zip k rs l)) (sym e) ih)

pub inside_append : (n : ℕ) (xs ys : List Range) → RangesWithin n xs → RangesWithin n ys → RangesWithin n (xs ++ ys)
inside_append n [] ys i j = j
inside_append n (x ∷ xs) ys i j = (i.0, i.1, inside_append n xs ys i.2 j)

all_inside : (n lo m k : ℕ) (rs : List Range) → Chain n lo rs → RangesWithin n (windows_from m k rs)
all_inside n lo m zero rs c = tt
all_inside n lo m (suc k) rs c = inside_append n (windows m rs) (windows_from (suc m) k rs) (windows_inside n lo m m rs c) (all_inside n lo (suc m) k rs c)

-- the parts of a site
halves_inside : (n : ℕ) (r : Range) (c m : ℕ) → r.from ≤ c → c + m ≤ r.to → r.to ≤ n → RangesWithin n (halves r c m)
halves_inside n r c zero h i j = tt
halves_inside n r c (suc m) h i j = (h, omega arith, (omega arith, j, halves_inside n r (suc c) m (omega arith) (omega arith) j))

inner_inside : (n : ℕ) (r : Range) → r.to ≤ n → RangesWithin n (inner_halves r)
inner_inside n r j = go (r.to - suc r.from) refl
  where
    go : (m : ℕ) → r.to - suc r.from ≡ m → RangesWithin n (halves r (suc r.from) m)
    go zero e = tt
    go (suc m) e = halves_inside n r (suc r.from) (suc m) (omega arith) (omega arith) j

pub parts_inside : (n : ℕ) (b : Bool) (r : Range) → r.from ≤ r.to → r.to ≤ n → RangesWithin n (parts_of b r)
parts_inside n true r h j = inner_inside n r j
parts_inside n false r h j = (h, j, tt)

spread_inside : (n : ℕ) (b : Bool) (rs : List Range) → RangesWithin n rs → RangesWithin n (all_parts b rs)
spread_inside n b [] i = tt
spread_inside n b (r ∷ rs) i = inside_append n (parts_of b r) (all_parts b rs) (parts_inside n b r i.0 i.1) (spread_inside n b rs i.2)

module _ (k : Knife) (s : List ℕ) where
  chain : Chain (length s) 0 (set_sites k 0 0 s)
  chain = sites_chain k (length s) 0 0 s (omega arith) (omega arith)

  pub inside_windows : (b : Bool) (m : ℕ) → RangesWithin (length s) (all_parts b (windows m (set_sites k 0 0 s)))
  inside_windows b m = spread_inside (length s) b (windows m (set_sites k 0 0 s)) (windows_inside (length s) 0 m m (set_sites k 0 0 s) chain)

  pub inside_sizes : (b : Bool) (missed : ℕ) → RangesWithin (length s) (all_parts b (set_windows k missed s))
  inside_sizes b missed = spread_inside (length s) b (set_windows k missed s) (all_inside (length s) 0 0 (suc missed) (set_sites k 0 0 s) chain)

  inside_set : (semi : Bool) (missed : ℕ) → RangesWithin (length s) (set_work k semi missed s)
  inside_set semi missed = inside_append (length s) (all_parts false (set_windows k missed s)) (cond semi (all_parts true (set_windows k missed s)) []) (inside_sizes false missed) (go semi)
    where
      go : (t : Bool) → RangesWithin (length s) (cond t (all_parts true (set_windows k missed s)) [])
      go true = inside_sizes true missed
      go false = tt

-- the ranges of "none"
starting_inside : (n len i m : ℕ) → i + m + len ≤ suc n → RangesWithin n (starting len i m)
starting_inside n len i zero h = tt
starting_inside n len i (suc m) h = (omega arith, omega arith, starting_inside n len (suc i) m (omega arith))

pub length_inside : (n len : ℕ) → RangesWithin n (of_length n len)
length_inside n len = go (suc n - len) refl
  where
    go : (m : ℕ) → suc n - len ≡ m → RangesWithin n (starting len 0 m)
    go zero e = tt
    go (suc m) e = starting_inside n len 0 (suc m) (omega arith)

lengths_inside : (n len m : ℕ) → RangesWithin n (of_lengths n len m)
lengths_inside n len zero = tt
lengths_inside n len (suc m) = inside_append n (of_length n len) (of_lengths n (suc len) m) (length_inside n len) (lengths_inside n (suc len) m)

pub inside_work : (e : Enzyme) (missed mn mx : ℕ) (s : List ℕ) → RangesWithin (length s) (work e missed mn mx s)
inside_work e missed mn mx s = go (meant e.kind)
  where
    go : (K : Kind) → RangesWithin (length s) (work_of K e missed mn mx s)
    go None = lengths_inside (length s) mn (suc mx - mn)
    go End = (omega arith, omega arith, tt)
    go (Set cleave) = inside_set (knife cleave e.skip e.side) s e.semi missed

-- how many letters a range has
pub part_length : (s : List ℕ) (r : Range) → r.from ≤ r.to → r.to ≤ length s → length (part s r) ≡ r.to - r.from
part_length s r h i = simp (length-take, length-drop) (omega arith)
