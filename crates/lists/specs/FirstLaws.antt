-- Numbers by first appearance: a number once given stays, and no more are found than there are. Assumes nothing.
use Rattle.std.specs.Prelude.{ℕ, zero, suc, ◌+◌, ◌≤◌, ◌<◌, ◌≡◌, refl, Bool, true, false, cond, ◌||◌, ◌⊎◌, List, [], ◌∷◌, ◌++◌, map, leb, eqb, length, get_or}
use Rattle.std.proofs.Common.{sym, ap, ◌∙◌, inl, inr, arith, eqb-true, eq-eqb, leb-true, leb-false}
use Rattle.std.proofs.lemmas.Bool.{eqb-false}
use Rattle.lists.specs.Tests.{clash}
use Rattle.lists.specs.Lists.{In, occurs, times}
use Rattle.lists.specs.InLaws.{in-get_or, in_times}
use Rattle.lists.specs.KeyLaws.{of_key, by_keys, below, Under, below_suc, below-zero, below_all}

-- where k first stands in a list
abbrev pub first_at : ℕ → List ℕ → ℕ
first_at k [] = 0
first_at k (x ∷ xs) = cond (eqb x k) 0 (suc (first_at k xs))

-- each number once, in the order of first appearance, behind those found before
abbrev pub first_ones : List ℕ → List ℕ → List ℕ
first_ones found [] = found
first_ones found (k ∷ ks) = first_ones (cond (occurs k found) found (found ++ (k ∷ []))) ks

pub occurs_append : (k : ℕ) (xs ys : List ℕ) → occurs k (xs ++ ys) ≡ (occurs k xs || occurs k ys)
occurs_append k [] ys = refl
occurs_append k (x ∷ xs) ys = go (eqb x k) (occurs_append k xs ys)
  where
    go : (t : Bool) → occurs k (xs ++ ys) ≡ (occurs k xs || occurs k ys) → cond t true (occurs k (xs ++ ys)) ≡ (cond t true (occurs k xs) || occurs k ys)
    go true r = refl
    go false r = r

pub times_append : (k : ℕ) (xs ys : List ℕ) → times k (xs ++ ys) ≡ times k xs + times k ys
times_append k [] ys = omega arith
times_append k (x ∷ xs) ys = go (eqb x k) (times_append k xs ys)
  where
    go : (t : Bool) → times k (xs ++ ys) ≡ times k xs + times k ys → cond t (suc (times k (xs ++ ys))) (times k (xs ++ ys)) ≡ cond t (suc (times k xs)) (times k xs) + times k ys
    go true r = omega arith
    go false r = r

first_at_append : (k : ℕ) (f g : List ℕ) → occurs k f ≡ true → first_at k (f ++ g) ≡ first_at k f
first_at_append k [] g h = clash h refl
first_at_append k (x ∷ xs) g h = go (eqb x k) h (first_at_append k xs g)
  where
    go : (t : Bool) → cond t true (occurs k xs) ≡ true → (occurs k xs ≡ true → first_at k (xs ++ g) ≡ first_at k xs) → cond t 0 (suc (first_at k (xs ++ g))) ≡ cond t 0 (suc (first_at k xs))
    go true h r = refl
    go false h r = ap suc (r h)

-- one more found
occurs-new : (k x : ℕ) (f : List ℕ) → occurs k f ≡ false → occurs k (f ++ (x ∷ [])) ≡ eqb x k
occurs-new k x [] h = go (eqb x k)
  where
    go : (t : Bool) → cond t true false ≡ t
    go true = refl
    go false = refl
occurs-new k x (y ∷ ys) h = go (eqb y k) h (occurs-new k x ys)
  where
    go : (t : Bool) → cond t true (occurs k ys) ≡ false → (occurs k ys ≡ false → occurs k (ys ++ (x ∷ [])) ≡ eqb x k) → cond t true (occurs k (ys ++ (x ∷ []))) ≡ eqb x k
    go true h r = clash refl h
    go false h r = r h

first_at-new : (x : ℕ) (f : List ℕ) → occurs x f ≡ false → first_at x (f ++ (x ∷ [])) ≡ length f
first_at-new x [] h = rw (eq-eqb x x refl)
first_at-new x (y ∷ ys) h = go (eqb y x) h (first_at-new x ys)
  where
    go : (t : Bool) → cond t true (occurs x ys) ≡ false → (occurs x ys ≡ false → first_at x (ys ++ (x ∷ [])) ≡ length ys) → cond t 0 (suc (first_at x (ys ++ (x ∷ [])))) ≡ suc (length ys)
    go true h r = clash refl h
    go false h r = ap suc (r h)

-- those found after x is seen
abbrev pub learnt : ℕ → List ℕ → List ℕ
learnt x f = cond (occurs x f) f (f ++ (x ∷ []))

pub has-learnt : (x : ℕ) (f : List ℕ) → occurs x (learnt x f) ≡ true
has-learnt x f = go (occurs x f) refl
  where
    go : (t : Bool) → occurs x f ≡ t → occurs x (cond t f (f ++ (x ∷ []))) ≡ true
    go true e = e
    go false e = occurs-new x x f e ∙ eq-eqb x x refl

keeps : (k x : ℕ) (f : List ℕ) → occurs k f ≡ true → (occurs k (learnt x f) ≡ true) × (first_at k (learnt x f) ≡ first_at k f)
keeps k x f h = go (occurs x f)
  where
    go : (t : Bool) → (occurs k (cond t f (f ++ (x ∷ []))) ≡ true) × (first_at k (cond t f (f ++ (x ∷ []))) ≡ first_at k f)
    go true = (h, refl)
    go false = (occurs_append k f (x ∷ []) ∙ rw h, first_at_append k f (x ∷ []) h)

-- THE LAW: a number once given is the number at the end
pub place-firsts : (k : ℕ) (f l : List ℕ) → occurs k f ≡ true → first_at k (first_ones f l) ≡ first_at k f
place-firsts k f [] h = refl
place-firsts k f (x ∷ xs) h = let r = keeps k x f h in place-firsts k (learnt x f) xs r.0 ∙ r.1

pub has-firsts : (k : ℕ) (f l : List ℕ) → occurs k f ≡ true → occurs k (first_ones f l) ≡ true
has-firsts k f [] h = h
has-firsts k f (x ∷ xs) h = has-firsts k (learnt x f) xs (keeps k x f h).0

-- found ones are below m, none twice: so there are at most m
pub record Once (m : ℕ) (f : List ℕ) : Type 0 where
  pub under : Under m f
  pub single : (k : ℕ) → times k f ≤ 1

few : (k : ℕ) (f : List ℕ) → ((k : ℕ) → times k f ≤ 1) → below k f ≤ k
few zero f s = omega (arith, below-zero f)
few (suc k) f s = omega (arith, below_suc k f, few k f s, s k)

pub at_most : (m : ℕ) (f : List ℕ) → Once m f → length f ≤ m
at_most m f o = omega (arith, few m f o.single, below_all m f o.under)

absent : (k : ℕ) (f : List ℕ) → occurs k f ≡ false → times k f ≡ 0
absent k [] h = refl
absent k (y ∷ ys) h = go (eqb y k) h (absent k ys)
  where
    go : (t : Bool) → cond t true (occurs k ys) ≡ false → (occurs k ys ≡ false → times k ys ≡ 0) → cond t (suc (times k ys)) (times k ys) ≡ 0
    go true h r = clash refl h
    go false h r = r h

under_append : (m x : ℕ) (f : List ℕ) → Under m f → x < m → Under m (f ++ (x ∷ []))
under_append m x [] u h = (h, tt)
under_append m x (y ∷ ys) u h = (u.0, under_append m x ys u.1 h)

pub once-new : (m x : ℕ) (f : List ℕ) → Once m f → x < m → occurs x f ≡ false → Once m (f ++ (x ∷ []))
once-new m x f o h e = record {
  under = under_append m x f o.under h;
  single = λ k. go k (eqb x k) refl;
}
  where
    go : (k : ℕ) (t : Bool) → eqb x k ≡ t → times k (f ++ (x ∷ [])) ≤ 1
    go k true q =
        let z : x ≡ k = eqb-true x k q in
        let a : times k f ≡ 0 = (rw z at (absent x f e)) in
        let b : times k (x ∷ []) ≡ 1 = rw q in
        omega (arith, times_append k f (x ∷ []))
    go k false q =
        let b : times k (x ∷ []) ≡ 0 = rw q in
        omega (arith, times_append k f (x ∷ []), o.single k)

-- one more than k's number, or 0 where it is not found
abbrev pub first_mark : ℕ → List ℕ → ℕ
first_mark k f = cond (occurs k f) (suc (first_at k f)) 0

pub first_mark-zero : (k : ℕ) (f : List ℕ) → first_mark k f ≡ 0 → occurs k f ≡ false
first_mark-zero k f e = go (occurs k f) refl e
  where
    go : (t : Bool) → occurs k f ≡ t → cond t (suc (first_at k f)) 0 ≡ 0 → occurs k f ≡ false
    go true q r = let f : ⊥ = omega arith in absurd f
    go false q r = q

pub mark-more : (k : ℕ) (f : List ℕ) → (first_mark k f ≡ 0 → ⊥) → occurs k f ≡ true
mark-more k f e = go (occurs k f) refl e
  where
    go : (t : Bool) → occurs k f ≡ t → (cond t (suc (first_at k f)) 0 ≡ 0 → ⊥) → occurs k f ≡ true
    go true q r = q
    go false q r = absurd (r refl)

pub mark_other : (k x : ℕ) (f : List ℕ) → eqb x k ≡ false → first_mark k (f ++ (x ∷ [])) ≡ first_mark k f
mark_other k x f e = go (occurs k f) refl
  where
    go : (t : Bool) → occurs k f ≡ t → first_mark k (f ++ (x ∷ [])) ≡ cond t (suc (first_at k f)) 0
    go true q = rw (occurs_append k f (x ∷ []), q, first_at_append k f (x ∷ []) q)
    go false q = rw (occurs-new k x f q, e)

pub mark-same : (x : ℕ) (f : List ℕ) → occurs x f ≡ false → first_mark x (f ++ (x ∷ [])) ≡ suc (length f)
mark-same x f e = rw (occurs-new x x f e, eq-eqb x x refl, first_at-new x f e)

pub place_lt : (k : ℕ) (f : List ℕ) → occurs k f ≡ true → first_at k f < length f
place_lt k [] h = clash h refl
place_lt k (x ∷ xs) h = go (eqb x k) h (place_lt k xs)
  where
    go : (t : Bool) → cond t true (occurs k xs) ≡ true → (occurs k xs ≡ true → first_at k xs < length xs) → cond t 0 (suc (first_at k xs)) < suc (length xs)
    go true h r = omega arith
    go false h r = omega (arith, r h)

-- all of a list are found
abbrev pub AllIn : List ℕ → List ℕ → Type 0
AllIn f [] = Unit {0}
AllIn f (x ∷ xs) = (occurs x f ≡ true) × AllIn f xs

pub firsts-all : (f l : List ℕ) → AllIn (first_ones f l) l
firsts-all f [] = tt
firsts-all f (x ∷ xs) = (has-firsts x (learnt x f) xs (has-learnt x f), firsts-all (learnt x f) xs)

all_left : (f xs ys : List ℕ) → AllIn f (xs ++ ys) → AllIn f xs
all_left f [] ys h = tt
all_left f (x ∷ xs) ys h = (h.0, all_left f xs ys h.1)

all_right : (f xs ys : List ℕ) → AllIn f (xs ++ ys) → AllIn f ys
all_right f [] ys h = h
all_right f (x ∷ xs) ys h = all_right f xs ys h.1

pub all_of_key : (f : List ℕ) (p i m : ℕ) (ks vs : List ℕ) → AllIn f (by_keys i m ks vs) → i ≤ p → p < i + m → AllIn f (of_key p ks vs)
all_of_key f p i zero ks vs h a b = let z : ⊥ = omega arith in absurd z
all_of_key f p i (suc m) ks vs h a b = go (eqb i p) refl (all_of_key f p (suc i) m ks vs (all_right f (of_key i ks vs) (by_keys (suc i) m ks vs) h))
  where
    go : (t : Bool) → eqb i p ≡ t → (suc i ≤ p → p < suc i + m → AllIn f (of_key p ks vs)) → AllIn f (of_key p ks vs)
    go true e r = let z : i ≡ p = eqb-true i p e in rw z at (all_left f (of_key i ks vs) (by_keys (suc i) m ks vs) h)
    go false e r = r (omega (arith, ne i p (eqb-false i p e) a)) (omega arith)
      where
        ne : (i p : ℕ) → (i ≡ p → ⊥) → i ≤ p → suc i ≤ p
        ne i p n h = less (leb (suc i) p) refl
          where
            less : (t : Bool) → leb (suc i) p ≡ t → suc i ≤ p
            less true q = leb-true (suc i) p q
            less false q = absurd (n (omega (arith, leb-false (suc i) p q)))

pub under_places : (f xs : List ℕ) → AllIn f xs → Under (length f) (map (λ (x : ℕ). first_at x f) xs)
under_places f [] h = tt
under_places f (x ∷ xs) h = (place_lt x f h.0, under_places f xs h.1)

-- what stands once has the place at which it stands
pub place_at : (l : List ℕ) (k : ℕ) → k < length l → times (get_or l k 0) l ≤ 1 → first_at (get_or l k 0) l ≡ k
place_at [] k h s = absurd (omega arith)
place_at (y ∷ ys) zero h s = rw (eq-eqb y y refl)
place_at (y ∷ ys) (suc i) h s = go (eqb y (get_or ys i 0)) s (place_at ys i (omega arith))
  where
    go : (t : Bool) → cond t (suc (times (get_or ys i 0) ys)) (times (get_or ys i 0) ys) ≤ 1 → (times (get_or ys i 0) ys ≤ 1 → first_at (get_or ys i 0) ys ≡ i)
        → cond t 0 (suc (first_at (get_or ys i 0) ys)) ≡ suc i
    go true s r = absurd (omega (arith, in_times (get_or ys i 0) ys (in-get_or 0 ys i (omega arith))))
    go false s r = ap suc (r s)

pub get_or_place : (x : ℕ) (l : List ℕ) → In x l → get_or l (first_at x l) 0 ≡ x
get_or_place x [] h = absurd h
get_or_place x (y ∷ ys) h = go (eqb y x) refl h (get_or_place x ys)
  where
    go : (t : Bool) → eqb y x ≡ t → (x ≡ y) ⊎ In x ys → (In x ys → get_or ys (first_at x ys) 0 ≡ x) → get_or (y ∷ ys) (cond t 0 (suc (first_at x ys))) 0 ≡ x
    go true e h r = eqb-true y x e
    go false e (inl z) r = clash (eq-eqb y x (sym z)) e
    go false e (inr k) r = r k
