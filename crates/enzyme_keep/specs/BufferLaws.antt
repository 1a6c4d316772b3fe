-- Laws of records in a buffer, and of the links that stand in them until the protein takes their place. Assumes nothing.
use Prim.Native.Nat.{ℕ, zero, suc, ◌+◌, ◌*◌, ◌≤◌, ◌<◌}
use Rattle.std.specs.Prelude.{◌≡◌, refl, ◌⊎◌, length, take, drop, set}
use Rattle.std.proofs.Math.Path.{sym, ap}
use Rattle.std.proofs.Common.{ap₂, ◌∙◌, inl, inr, ⊎_elim, arith, add-one, length-append, take-append-drop, set-set, drop_at, drop-drop, drop-set-lt, get_or-drop, length-take-le}
use mathlib.Core.List.{List, [], ◌∷◌, ◌++◌, append_assoc}
use Rattle.std.proofs.Math.ListN.{get_or}
use Rattle.std.proofs.Math.Seq.{sets, length-sets}
use Rattle.std.proofs.lemmas.List.Edits.{sets-eq}
use Rattle.std.proofs.lemmas.List.{get_or_at, set_comm}
use Rattle.lists.specs.Tests.{below?}
use Rattle.records.specs.Le.{le, value, number_at}
use Rattle.records.specs.LeLaws.{sets_append, value-le, Apart, get_or-sets_other, number_apart}
use Rattle.enzyme_cuts.specs.Cutting.{Range, range}
use Rattle.enzyme_cuts.specs.Work.{RangesWithin}
use Rattle.enzyme_keep.specs.Digests.{position_of, record_of}
use Rattle.enzyme_keep.specs.Buffer.{placed_record, range_at, ranges_in, links_in, sealed, bared, times_at, retold}

-- ---- runs of stores

-- two runs, one behind the other, are one
pub sets_behind : (xs ys l : List ℕ) (i j : ℕ) → j ≡ i + length xs → sets (sets l i xs) j ys ≡ sets l i (xs ++ ys)
sets_behind xs ys l i j e = rw e (sym (sets_append xs ys l i))

set-sets : (vs l : List ℕ) (i a j : ℕ) → i < j → sets (set l i a) j vs ≡ set (sets l j vs) i a
set-sets [] l i a j h = refl
set-sets (v ∷ vs) l i a j h = rw (set_comm l i j a v (λ e. omega arith)) (set-sets vs (set l j v) i a (suc j) (omega arith))

pub sets_comm : (xs ys l : List ℕ) (i j : ℕ) → i + length xs ≤ j → sets (sets l i xs) j ys ≡ sets (sets l j ys) i xs
sets_comm [] ys l i j h = refl
sets_comm (x ∷ xs) ys l i j h = sets_comm xs ys (set l i x) (suc i) j (omega arith) ∙ rw (set-sets ys l i x j (omega arith))

-- a run within another that comes after it is lost
pub sets-within : (xs ys l : List ℕ) (i j : ℕ) → j ≤ i → i + length xs ≤ j + length ys → sets (sets l i xs) j ys ≡ sets l j ys
sets-within xs [] l i j h g = go xs (omega arith)
  where
    go : (xs : List ℕ) → length xs ≤ 0 → sets (sets l i xs) j [] ≡ sets l j []
    go [] z = refl
    go (x ∷ xs) z = absurd (omega arith)
sets-within xs (y ∷ ys) l i j h g = go (below? j i) xs g (λ zs k p q. sets-within zs ys (set l j y) k (suc j) p q)
  where
    go : (j < i) ⊎ (i ≤ j) → (xs : List ℕ) → i + length xs ≤ j + suc (length ys)
        → ((zs : List ℕ) (k : ℕ) → suc j ≤ k → k + length zs ≤ suc j + length ys → sets (sets (set l j y) k zs) (suc j) ys ≡ sets (set l j y) (suc j) ys)
        → sets (set (sets l i xs) j y) (suc j) ys ≡ sets (set l j y) (suc j) ys
    go (inl x) xs g ih = rw (← set-sets xs l j y i x) (ih xs i x (omega arith))
    go (inr x) [] g ih = refl
    go (inr x) (z ∷ zs) g ih =
        let e : i ≡ j = omega arith in
        rw (e, ← set-sets zs (set l j z) j y (suc j) (omega arith), set-set l j z y) (ih zs (suc j) (omega arith) (omega arith))

pub sets_over : (xs ys l : List ℕ) (i : ℕ) → length xs ≡ length ys → sets (sets l i xs) i ys ≡ sets l i ys
sets_over [] [] l i e = refl
sets_over [] (y ∷ ys) l i e = absurd (omega arith)
sets_over (x ∷ xs) [] l i e = absurd (omega arith)
sets_over (x ∷ xs) (y ∷ ys) l i e =
    let f = set-sets xs (set l i x) i y (suc i) (omega arith) in
    let g = set-set l i x y in
    rw (← f, g) (sets_over xs ys (set l i y) (suc i) (omega arith))

drop-sets : (vs l : List ℕ) (i j : ℕ) → i + length vs ≤ j → drop j (sets l i vs) ≡ drop j l
drop-sets [] l i j h = refl
drop-sets (v ∷ vs) l i j h = drop-sets vs (set l i v) (suc i) j (omega arith) ∙ drop-set-lt j l i v (omega arith)

-- ---- a record

pub length_record : (n p : ℕ) (r : Range) (x : ℕ) → length (record_of n p r x) ≡ 20
unfolding record_of
length_record n p r x = refl

-- what was stored is read back
module _ (n p : ℕ) (r : Range) (x : ℕ) (out : List ℕ) (at : ℕ) (h : at + 20 ≤ length out) where
  behind : drop at (sets out at (record_of n p r x)) ≡ record_of n p r x ++ drop (at + 20) out
  behind =
      let l : length (record_of n p r x) ≡ 20 = length_record n p r x in
      let t : length (take at out) ≡ at = length-take-le at out (omega arith) in
      ap (drop at) (sets-eq (record_of n p r x) out at (omega arith) ∙ append_assoc (take at out) (record_of n p r x) (drop (at + length (record_of n p r x)) out))
      ∙ drop_at (take at out) (record_of n p r x ++ drop (at + length (record_of n p r x)) out) at t
      ∙ rw l

  range-stored : n ≤ 65536 → r.from ≤ r.to → r.to ≤ n → range_at (sets out at (record_of n p r x)) at ≡ r
  unfolding number_at record_of
  range-stored small i j =
      let new : List ℕ = sets out at (record_of n p r x) in
      let a : number_at 4 new at ≡ r.from = ap (λ (l : List ℕ). value (take 4 l)) behind ∙ value-le 4 r.from (omega arith) in
      let b : number_at 4 new (at + 4) ≡ r.to = ap (λ (l : List ℕ). value (take 4 l)) (sym (drop-drop 4 at new) ∙ ap (drop 4) behind) ∙ value-le 4 r.to (omega arith) in
      let c : get_or new (at + 8) 0 ≡ r.missed = sym (get_or-drop at new 8 0) ∙ ap (λ (l : List ℕ). get_or l 8 0) behind in
      let d : get_or new (at + 9) 0 ≡ r.semi = sym (get_or-drop at new 9 0) ∙ ap (λ (l : List ℕ). get_or l 9 0) behind in
      λ k. range (a k) (b k) (c k) (d k)

  link_stored : p < 4294967296 → number_at 4 (sets out at (record_of n p r x)) (at + 12) ≡ p
  unfolding number_at record_of
  link_stored low =
      let new : List ℕ = sets out at (record_of n p r x) in
      ap (λ (l : List ℕ). value (take 4 l)) (sym (drop-drop 12 at new) ∙ ap (drop 12) behind) ∙ value-le 4 p (omega arith)

  pub times-stored : take 4 (drop (at + 16) (sets out at (record_of n p r x))) ≡ le 4 x
  unfolding record_of
  times-stored = ap (take 4) (sym (drop-drop 16 at (sets out at (record_of n p r x))) ∙ ap (drop 16) behind)

-- ---- what stores elsewhere leave

narrow : (j w k v at n : ℕ) → j ≤ k → k + v ≤ j + w → Apart j w at n → Apart k v at n
narrow j w k v at n g h x = ⊎_elim (λ (y : j + w ≤ at). inl (omega arith)) (λ (y : at + n ≤ j). inr (omega arith)) x

range_apart : (vs out : List ℕ) (i at : ℕ) → Apart at 10 i (length vs) → range_at (sets out i vs) at ≡ range_at out at
range_apart vs out i at x =
    let a = number_apart 4 vs out i at (narrow at 10 at 4 i (length vs) (omega arith) (omega arith) x) in
    let b = number_apart 4 vs out i (at + 4) (narrow at 10 (at + 4) 4 i (length vs) (omega arith) (omega arith) x) in
    let c = get_or-sets_other vs out i (at + 8) (narrow at 10 (at + 8) 1 i (length vs) (omega arith) (omega arith) x) in
    let d = get_or-sets_other vs out i (at + 9) (narrow at 10 (at + 9) 1 i (length vs) (omega arith) (omega arith) x) in
    λ k. range (a k) (b k) (c k) (d k)

ranges_apart : (vs out : List ℕ) (i k : ℕ) → ((j : ℕ) → j < k → Apart (20 * j) 10 i (length vs)) → ranges_in k (sets out i vs) ≡ ranges_in k out
ranges_apart vs out i zero x = refl
ranges_apart vs out i (suc k) x =
    ap₂ (λ (ks : List Range) (r : Range). ks ++ (r ∷ [])) (ranges_apart vs out i k (λ j h. x j (omega arith))) (range_apart vs out i (20 * k) (x k (omega arith)))

links_apart : (vs out : List ℕ) (i k : ℕ) → 20 * k ≤ i → links_in k (sets out i vs) ≡ links_in k out
links_apart vs out i zero h = refl
links_apart vs out i (suc k) h =
    ap₂ (λ (ls : List ℕ) (l : ℕ). ls ++ (l ∷ [])) (links_apart vs out i k (omega arith)) (number_apart 4 vs out i (20 * k + 12) (inl (omega arith)))

-- ---- the records, and one more

pub length-ranges : (k : ℕ) (out : List ℕ) → length (ranges_in k out) ≡ k
length-ranges zero out = refl
length-ranges (suc k) out = length-append (ranges_in k out) (range_at out (20 * k) ∷ []) ∙ omega (arith, length-ranges k out)

pub length_links : (k : ℕ) (out : List ℕ) → length (links_in k out) ≡ k
length_links zero out = refl
length_links (suc k) out = length-append (links_in k out) _ ∙ omega (arith, length_links k out)

module _ (n p : ℕ) (r : Range) (x k : ℕ) (out : List ℕ) (h : 20 * k + 20 ≤ length out) where
  pub ranges_more : n ≤ 65536 → r.from ≤ r.to → r.to ≤ n → ranges_in (suc k) (sets out (20 * k) (record_of n p r x)) ≡ ranges_in k out ++ (r ∷ [])
  ranges_more small i j =
      ap₂ (λ (ks : List Range) (q : Range). ks ++ (q ∷ [])) (ranges_apart (record_of n p r x) out (20 * k) k (λ m l. inl (omega arith))) (range-stored n p r x out (20 * k) h small i j)

  pub links_more : p < 4294967296 → links_in (suc k) (sets out (20 * k) (record_of n p r x)) ≡ links_in k out ++ (p ∷ [])
  links_more low =
      ap₂ (λ (ls : List ℕ) (l : ℕ). ls ++ (l ∷ [])) (links_apart (record_of n p r x) out (20 * k) k (omega arith)) (link_stored n p r x out (20 * k) h low)

-- ---- the protein in the place of the links, and no numbers behind

pub length-bared : (p k : ℕ) (out : List ℕ) → length (bared p k out) ≡ length out
length-bared p zero out = refl
length-bared p (suc k) out = length-sets (bared p k out) (20 * k + 12) (le 4 p ++ le 4 0) ∙ length-bared p k out

-- bytes that are written from byte 12 of a record on are in no range
away : (vs : List ℕ) (m i : ℕ) → 20 * m + 12 ≤ i → i + length vs ≤ 20 * m + 20 → (j : ℕ) → Apart (20 * j) 10 i (length vs)
away vs m i l h j = go (below? j (suc m))
  where
    go : (j < suc m) ⊎ (suc m ≤ j) → Apart (20 * j) 10 i (length vs)
    go (inl x) = inl (omega arith)
    go (inr x) = inr (omega arith)

-- the ranges do not see them
pub ranges-behind : (vs : List ℕ) (m i k : ℕ) (out : List ℕ) → 20 * m + 12 ≤ i → i + length vs ≤ 20 * m + 20 → ranges_in k (sets out i vs) ≡ ranges_in k out
ranges-behind vs m i k out l h = ranges_apart vs out i k (λ j g. away vs m i l h j)

pub ranges-bared : (p k m : ℕ) (out : List ℕ) → ranges_in k (bared p m out) ≡ ranges_in k out
ranges-bared p k zero out = refl
ranges-bared p k (suc m) out = ranges-behind (le 4 p ++ le 4 0) m (20 * m + 12) k (bared p m out) (omega arith) (omega arith) ∙ ranges-bared p k m out

pub range-bared : (p k m : ℕ) (out : List ℕ) → range_at (bared p m out) (20 * k) ≡ range_at out (20 * k)
range-bared p k zero out = refl
range-bared p k (suc m) out = range_apart (le 4 p ++ le 4 0) (bared p m out) (20 * m + 12) (20 * k) (away (le 4 p ++ le 4 0) m (20 * m + 12) (omega arith) (omega arith) k) ∙ range-bared p k m out

-- a record behind the bared ones
pub bared-past : (p : ℕ) (vs : List ℕ) (k i : ℕ) (out : List ℕ) → 20 * k ≤ i → bared p k (sets out i vs) ≡ sets (bared p k out) i vs
bared-past p vs zero i out h = refl
bared-past p vs (suc k) i out h = rw (bared-past p vs k i out (omega arith)) (sym (sets_comm (le 4 p ++ le 4 0) vs (bared p k out) (20 * k + 12) i (omega arith)))

-- what stands behind the first 12 bytes of a bared record is lost
pub bared_lost : (p : ℕ) (vs : List ℕ) (j i : ℕ) (out : List ℕ) → 20 * j + 12 ≤ i → i + length vs ≤ 20 * j + 20 → (k : ℕ) → j < k → bared p k (sets out i vs) ≡ bared p k out
bared_lost p vs j i out l h zero g = absurd (omega arith)
bared_lost p vs j i out l h (suc k) g = go (below? j k) (bared_lost p vs j i out l h k)
  where
    go : (j < k) ⊎ (k ≤ j) → (j < k → bared p k (sets out i vs) ≡ bared p k out) → bared p (suc k) (sets out i vs) ≡ bared p (suc k) out
    go (inl x) ih = rw (ih x)
    go (inr x) ih =
        let e : j ≡ k = omega arith in
        rw (bared-past p vs k i out (omega arith)) (sets-within vs (le 4 p ++ le 4 0) (bared p k out) i (20 * k + 12) (omega arith) (omega arith))

front : ℕ → Range → List ℕ
front n r = le 4 r.from ++ (le 4 r.to ++ (r.missed ∷ r.semi ∷ position_of n r.from r.to ∷ 0 ∷ []))

record_parts : (n p : ℕ) (r : Range) (x : ℕ) → record_of n p r x ≡ front n r ++ (le 4 p ++ le 4 x)
unfolding record_of front
record_parts n p r x = refl

length_front : (n : ℕ) (r : Range) → length (front n r) ≡ 12
unfolding front
length_front n r = refl

-- a record with a link and a number is bared to the record with the protein and 0
pub bared-more : (n p q : ℕ) (r : Range) (x k : ℕ) (out : List ℕ) → bared p (k + 1) (sets out (20 * k) (record_of n q r x)) ≡ sets (bared p k out) (20 * k) (record_of n p r 0)
bared-more n p q r x k out =
    let X = bared p k out in
    let lf = length_front n r in
    let a : sets (sets X (20 * k) (front n r)) (20 * k + 12) (le 4 q ++ le 4 x) ≡ sets X (20 * k) (record_of n q r x) = sets_behind (front n r) (le 4 q ++ le 4 x) X (20 * k) (20 * k + 12) (omega arith) ∙ rw (record_parts n q r x) in
    let b : sets (sets X (20 * k) (front n r)) (20 * k + 12) (le 4 p ++ le 4 0) ≡ sets X (20 * k) (record_of n p r 0) = sets_behind (front n r) (le 4 p ++ le 4 0) X (20 * k) (20 * k + 12) (omega arith) ∙ rw (record_parts n p r 0) in
    let c = sets_over (le 4 q ++ le 4 x) (le 4 p ++ le 4 0) (sets X (20 * k) (front n r)) (20 * k + 12) refl in
    let d : bared p k (sets out (20 * k) (record_of n q r x)) ≡ sets X (20 * k) (record_of n q r x) = bared-past p (record_of n q r x) k (20 * k) out (omega arith) in
    rw (add-one k, d, ← a) (c ∙ b)

-- ---- numbers told of ranges

pub length-retold : (f : Range → ℕ) (k : ℕ) (out : List ℕ) → length (retold f k out) ≡ length out
length-retold f zero out = refl
length-retold f (suc k) out = length-sets (retold f k out) (20 * k + 16) (le 4 (f (range_at out (20 * k)))) ∙ length-retold f k out

pub ranges-retold : (f : Range → ℕ) (k m : ℕ) (out : List ℕ) → ranges_in k (retold f m out) ≡ ranges_in k out
ranges-retold f k zero out = refl
ranges-retold f k (suc m) out = ranges-behind (le 4 (f (range_at out (20 * m)))) m (20 * m + 16) k (retold f m out) (omega arith) (omega arith) ∙ ranges-retold f k m out

-- by what stands behind the first 10 bytes of records that are told, nothing changes but that
retold-past : (f : Range → ℕ) (vs : List ℕ) (k i : ℕ) (out : List ℕ) → 20 * k ≤ i → retold f k (sets out i vs) ≡ sets (retold f k out) i vs
retold-past f vs zero i out h = refl
retold-past f vs (suc k) i out h =
    let e : range_at (sets out i vs) (20 * k) ≡ range_at out (20 * k) = range_apart vs out i (20 * k) (inl (omega arith)) in
    rw (e, retold-past f vs k i out (omega arith)) (sym (sets_comm (le 4 (f (range_at out (20 * k)))) vs (retold f k out) (20 * k + 16) i (omega arith)))

-- a record more
pub retold-more : (f : Range → ℕ) (n p : ℕ) (r : Range) (k : ℕ) (out : List ℕ) → 20 * k + 20 ≤ length out → n ≤ 65536 → r.from ≤ r.to → r.to ≤ n
    → retold f (k + 1) (sets out (20 * k) (record_of n p r 0)) ≡ sets (retold f k out) (20 * k) (record_of n p r (f r))
retold-more f n p r k out h small i j =
    let X = retold f k out in
    let lf = length_front n r in
    let e : range_at (sets out (20 * k) (record_of n p r 0)) (20 * k) ≡ r = range-stored n p r 0 out (20 * k) h small i j in
    let d : retold f k (sets out (20 * k) (record_of n p r 0)) ≡ sets X (20 * k) (record_of n p r 0) = retold-past f (record_of n p r 0) k (20 * k) out (omega arith) in
    let parts : (x : ℕ) → sets (sets X (20 * k) (front n r ++ le 4 p)) (20 * k + 16) (le 4 x) ≡ sets X (20 * k) (record_of n p r x) =
    λ x. sets_behind (front n r ++ le 4 p) (le 4 x) X (20 * k) (20 * k + 16) (omega (arith, length-append (front n r) (le 4 p))) ∙ rw (record_parts n p r x, append_assoc (front n r) (le 4 p) (le 4 x)) in
    rw (add-one k, e, d, ← parts 0) (sets_over (le 4 0) (le 4 (f r)) (sets X (20 * k) (front n r ++ le 4 p)) (20 * k + 16) refl ∙ parts (f r))

-- a run of stores of what stands there already
sets_same : (xs l : List ℕ) (i : ℕ) → i + length xs ≤ length l → take (length xs) (drop i l) ≡ xs → sets l i xs ≡ l
sets_same xs l i h e = sets-eq xs l i h ∙ ap (λ (ys : List ℕ). (take i l ++ ys) ++ drop (i + length xs) l) (sym e) ∙ append_assoc (take i l) (take (length xs) (drop i l)) (drop (i + length xs) l)
    ∙ ap (λ (ys : List ℕ). take i l ++ ys) (ap (λ (ys : List ℕ). take (length xs) (drop i l) ++ ys) (sym (drop-drop (length xs) i l)) ∙ take-append-drop (length xs) (drop i l)) ∙ take-append-drop i l

-- where each record has its number, a bared one gets it back
pub retold-bared : (f : Range → ℕ) (p k : ℕ) (out : List ℕ) → 20 * k ≤ length out → ((j : ℕ) → j < k → times_at j out ≡ le 4 (f (range_at out (20 * j)))) → retold f k (bared p k out) ≡ sealed p k out
retold-bared f p zero out h told = refl
retold-bared f p (suc k) out h told =
    let X = sealed p k out in
    let B = bared p k out in
    let x = f (range_at out (20 * k)) in
    let w = le 4 p ++ le 4 0 in
    let e : range_at (sets B (20 * k + 12) w) (20 * k) ≡ range_at out (20 * k) = range-bared p k (suc k) out in
    let d : retold f k (sets B (20 * k + 12) w) ≡ sets X (20 * k + 12) w = retold-past f w k (20 * k + 12) B (omega arith) ∙ ap (λ (l : List ℕ). sets l (20 * k + 12) w) (retold-bared f p k out (omega arith) (λ j l. told j (omega arith))) in
    let parts : (x : ℕ) → sets (sets X (20 * k + 12) (le 4 p)) (20 * k + 16) (le 4 x) ≡ sets X (20 * k + 12) (le 4 p ++ le 4 x) = λ x. sets_behind (le 4 p) (le 4 x) X (20 * k + 12) (20 * k + 16) (omega arith) in
    let c : sets X (20 * k + 12) (le 4 p ++ le 4 x) ≡ sets (sets X (20 * k + 16) (le 4 x)) (20 * k + 12) (le 4 p) = sym (parts x) ∙ sets_comm (le 4 p) (le 4 x) X (20 * k + 12) (20 * k + 16) (omega arith) in
    let m : sets X (20 * k + 16) (le 4 x) ≡ X = sets_same (le 4 x) X (20 * k + 16) (omega (arith, length-sealed p k out)) (times-sealed p k out (20 * k + 16) (omega arith) ∙ told k (omega arith)) in
    rw (e, d, ← parts 0) (sets_over (le 4 0) (le 4 x) (sets X (20 * k + 12) (le 4 p)) (20 * k + 16) refl ∙ parts x ∙ c ∙ ap (λ (l : List ℕ). sets l (20 * k + 12) (le 4 p)) m)
  where
    length-sealed : (p k : ℕ) (out : List ℕ) → length (sealed p k out) ≡ length out
    length-sealed p zero out = refl
    length-sealed p (suc k) out = length-sets (sealed p k out) (20 * k + 12) (le 4 p) ∙ length-sealed p k out

    times-sealed : (p k : ℕ) (out : List ℕ) (i : ℕ) → 20 * k ≤ i → take 4 (drop i (sealed p k out)) ≡ take 4 (drop i out)
    times-sealed p zero out i l = refl
    times-sealed p (suc k) out i l = ap (take 4) (drop-sets (le 4 p) (sealed p k out) (20 * k + 12) i (omega arith)) ∙ times-sealed p k out i (omega arith)

-- ---- range j and link j of those in a buffer, as they are read

inside_last : (n : ℕ) (ks : List Range) (r : Range) → RangesWithin n (ks ++ (r ∷ [])) → RangesWithin n ks × (r.from ≤ r.to) × (r.to ≤ n)
inside_last n [] r i = (tt, i.0, i.1)
inside_last n (k ∷ ks) r i = let x = inside_last n ks r i.2 in ((i.0, i.1, x.0), x.1, x.2)

inside_read : (n count : ℕ) (out : List ℕ) (j : ℕ) → j < count → RangesWithin n (ranges_in count out)
    → ((range_at out (20 * j)).from ≤ (range_at out (20 * j)).to) × ((range_at out (20 * j)).to ≤ n)
inside_read n zero out j h i = absurd (omega arith)
inside_read n (suc k) out j h i =
    let x = inside_last n (ranges_in k out) (range_at out (20 * k)) i in
    ⊎_elim (λ (g : j < k). inside_read n k out j g x.0) (λ (g : k ≤ j). let e : j ≡ k = omega arith in rw e (x.1, x.2)) (below? j k)

-- the same, with the start and the end as they were read
module _ (count : ℕ) (out : List ℕ) (j a b : ℕ) (h : j < count) (ea : a ≡ number_at 4 out (20 * j)) (eb : b ≡ number_at 4 out (20 * j + 4)) where
  pub read_inside : (n : ℕ) → RangesWithin n (ranges_in count out) → (a ≤ b) × (b ≤ n)
  read_inside n i = rw (ea, eb) (inside_read n count out j h i)

get_before : (ls : List ℕ) (x j : ℕ) → j < length ls → get_or (ls ++ (x ∷ [])) j 0 ≡ get_or ls j 0
get_before [] x j g = absurd (omega arith)
get_before (y ∷ ys) x zero g = refl
get_before (y ∷ ys) x (suc j) g = get_before ys x j (omega arith)

pub link_read : (count : ℕ) (out : List ℕ) (j : ℕ) → j < count → get_or (links_in count out) j 0 ≡ number_at 4 out (20 * j + 12)
link_read zero out j h = absurd (omega arith)
link_read (suc k) out j h = ⊎_elim (λ (g : j < k). inner g (link_read k out j g)) last (below? j k)
  where
    l : length (links_in k out) ≡ k
    l = length_links k out

    inner : j < k → get_or (links_in k out) j 0 ≡ number_at 4 out (20 * j + 12) → get_or (links_in (suc k) out) j 0 ≡ number_at 4 out (20 * j + 12)
    inner g ih = get_before (links_in k out) (number_at 4 out (20 * k + 12)) j (omega (arith, l)) ∙ ih

    last : k ≤ j → get_or (links_in (suc k) out) j 0 ≡ number_at 4 out (20 * j + 12)
    last g = let e : j ≡ k = omega arith in rw e (get_or_at (links_in k out) (number_at 4 out (20 * k + 12)) [] 0 k l)

-- ---- the position of a record

pub record_placed : (n last : ℕ) (r : Range) (times : ℕ) → placed_record (position_of n r.from r.to) last r times ≡ record_of n last r times
unfolding placed_record record_of
record_placed n last r times = refl
