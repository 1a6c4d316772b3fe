-- What stands in a list. Assumes nothing.
use Rattle.std.specs.Prelude.{ℕ, zero, suc, ◌+◌, ◌≤◌, ◌<◌, ◌≡◌, refl, Bool, true, false, cond, ◌⊎◌, List, [], ◌∷◌, ◌++◌, map, eqb, length, get_or}
use Rattle.std.proofs.Common.{sym, ap, ◌∙◌, subst, inl, inr, ⊎_elim, arith, eqb-true, eq-eqb}
use Rattle.lists.specs.Tests.{below?, clash}
use Rattle.lists.specs.Lists.{In, Different, keep, bit, count, occurs, times}
use Rattle.lists.specs.KeepLaws.{count-times}

module _ {A : Type 0} (x : A) where
  pub in_left : (xs ys : List A) → In x xs → In x (xs ++ ys)
  in_left [] ys h = absurd h
  in_left (y ∷ xs) ys (inl e) = inl e
  in_left (y ∷ xs) ys (inr k) = inr (in_left xs ys k)

  pub in_right : (xs ys : List A) → In x ys → In x (xs ++ ys)
  in_right [] ys h = h
  in_right (y ∷ xs) ys h = inr (in_right xs ys h)

  pub in_append : (xs ys : List A) → In x (xs ++ ys) → In x xs ⊎ In x ys
  in_append [] ys h = inr h
  in_append (y ∷ xs) ys (inl e) = inl (inl e)
  in_append (y ∷ xs) ys (inr k) = ⊎_elim (λ i. inl (inr i)) (λ i. inr i) (in_append xs ys k)

  pub in_keep : (p : A → Bool) (xs : List A) → In x xs → p x ≡ true → In x (keep p xs)
  in_keep p [] h e = h
  in_keep p (y ∷ xs) h e = go (p y) refl h (in_keep p xs)
    where
      go : (t : Bool) → p y ≡ t → In x (y ∷ xs) → (In x xs → p x ≡ true → In x (keep p xs)) → In x (cond t (y ∷ keep p xs) (keep p xs))
      go true q (inl z) r = inl z
      go true q (inr k) r = inr (r k e)
      go false q (inl z) r = clash (ap p (sym z) ∙ e) q
      go false q (inr k) r = r k e

  pub keep_in : (p : A → Bool) (xs : List A) → In x (keep p xs) → In x xs × (p x ≡ true)
  keep_in p [] h = absurd h
  keep_in p (y ∷ xs) h = go (p y) refl h (keep_in p xs)
    where
      go : (t : Bool) → p y ≡ t → In x (cond t (y ∷ keep p xs) (keep p xs)) → (In x (keep p xs) → In x xs × (p x ≡ true)) → In x (y ∷ xs) × (p x ≡ true)
      go true q (inl z) r = (inl z, ap p z ∙ q)
      go true q (inr k) r = let s = r k in (inr s.0, s.1)
      go false q k r = let s = r k in (inr s.0, s.1)

module _ {A B : Type 0} (f : A → B) where
  pub in_map : (x : A) (xs : List A) → In x xs → In (f x) (map f xs)
  in_map x [] h = absurd h
  in_map x (y ∷ ys) (inl e) = inl (ap f e)
  in_map x (y ∷ ys) (inr k) = inr (in_map x ys k)

  pub map_in : (y : B) (xs : List A) → In y (map f xs) → (x : A) × In x xs × (y ≡ f x)
  map_in y [] h = absurd h
  map_in y (x ∷ xs) (inl e) = (x, inl refl, e)
  map_in y (x ∷ xs) (inr k) = let (z, i, e) = map_in y xs k in (z, inr i, e)

module _ {A : Type 0} (d : A) where
  pub in-get_or : (l : List A) (i : ℕ) → i < length l → In (get_or l i d) l
  in-get_or [] i h = absurd (omega arith)
  in-get_or (x ∷ xs) zero h = inl refl
  in-get_or (x ∷ xs) (suc i) h = inr (in-get_or xs i (omega arith))

  pub get_or_in : (x : A) (l : List A) → In x l → (i : ℕ) × (i < length l) × (get_or l i d ≡ x)
  get_or_in x [] h = absurd h
  get_or_in x (y ∷ ys) (inl e) = (0, omega arith, sym e)
  get_or_in x (y ∷ ys) (inr k) = let (i, l, e) = get_or_in x ys k in (suc i, omega arith, e)

-- the place of what a map makes
pub get_or_mapped : (f : ℕ → ℕ) (l : List ℕ) (i : ℕ) → i < length l → get_or (map f l) i 0 ≡ f (get_or l i 0)
get_or_mapped f [] i h = absurd (omega arith)
get_or_mapped f (x ∷ xs) zero h = refl
get_or_mapped f (x ∷ xs) (suc i) h = get_or_mapped f xs i (omega arith)

-- a list without places
pub no_places : {A : Type 0} (l : List A) → length l ≡ 0 → l ≡ []
no_places [] h = refl
no_places (x ∷ xs) h = absurd (omega arith)

pub is_in : {A : Type 0} {x y : A} {k l : List A} → x ≡ y → k ≡ l → In x k → In y l
is_in {A} {y = y} {k} p q h = subst (λ (m : List A). In y m) q (subst (λ (z : A). In z k) p h)

pub in_some : {A : Type 0} (x : A) (l : List A) → In x l → 0 < length l
in_some x [] h = absurd h
in_some x (y ∷ ys) h = omega arith

pub some_in : {A : Type 0} (l : List A) → 0 < length l → (x : A) × In x l
some_in [] h = absurd (omega arith)
some_in (y ∷ ys) h = (y, inl refl)

pub occurs_in : (k : ℕ) (l : List ℕ) → occurs k l ≡ true → In k l
occurs_in k [] h = clash h refl
occurs_in k (x ∷ xs) h = go (eqb x k) refl h (occurs_in k xs)
  where
    go : (t : Bool) → eqb x k ≡ t → cond t true (occurs k xs) ≡ true → (occurs k xs ≡ true → In k xs) → (k ≡ x) ⊎ In k xs
    go true e h r = inl (sym (eqb-true x k e))
    go false e h r = inr (r h)

pub in_occurs : (k : ℕ) (l : List ℕ) → In k l → occurs k l ≡ true
in_occurs k [] h = absurd h
in_occurs k (x ∷ xs) (inl e) = rw (eq-eqb x k (sym e))
in_occurs k (x ∷ xs) (inr i) = go (eqb x k) (in_occurs k xs i)
  where
    go : (t : Bool) → occurs k xs ≡ true → cond t true (occurs k xs) ≡ true
    go true r = refl
    go false r = r

-- ---- how many of a list pass a test

module _ {A : Type 0} (p : A → Bool) where
  pub count_in : (x : A) (xs : List A) → In x xs → p x ≡ true → 0 < count p xs
  count_in x [] h e = absurd h
  count_in x (y ∷ xs) (inl z) e = let k : p y ≡ true = ap p (sym z) ∙ e in rw k (omega arith)
  count_in x (y ∷ xs) (inr i) e = omega (arith, count_in x xs i e)

  pub in_count : (xs : List A) → 0 < count p xs → (x : A) × In x xs × (p x ≡ true)
  in_count [] h = absurd (omega arith)
  in_count (y ∷ xs) h = go (p y) refl h (in_count xs)
    where
      go : (t : Bool) → p y ≡ t → 0 < bit t + count p xs → (0 < count p xs → (x : A) × In x xs × (p x ≡ true)) → (x : A) × In x (y ∷ xs) × (p x ≡ true)
      go true e h r = (y, inl refl, e)
      go false e h r = let (x, i, q) = r (omega arith) in (x, inr i, q)

  pub none-count : (xs : List A) → ((x : A) → In x xs → p x ≡ true → ⊥) → count p xs ≡ 0
  none-count xs h = ⊎_elim (λ (k : 0 < count p xs). let (x, i, e) = in_count xs k in absurd (h x i e)) (λ (k : count p xs ≤ 0). omega arith) (below? 0 (count p xs))

  -- tests that agree on what stands in a list
  pub keep-alike : (q : A → Bool) (xs : List A) → ((x : A) → In x xs → p x ≡ q x) → keep p xs ≡ keep q xs
  keep-alike q [] h = refl
  keep-alike q (x ∷ xs) h =
      ap (λ (l : List A). cond (p x) (x ∷ l) l) (keep-alike q xs (λ y i. h y (inr i))) ∙ ap (λ (t : Bool). cond t (x ∷ keep q xs) (keep q xs)) (h x (inl refl))

pub map-alike : {A B : Type 0} (f g : A → B) (xs : List A) → ((x : A) → In x xs → f x ≡ g x) → map f xs ≡ map g xs
map-alike f g [] h = refl
map-alike {A} {B} f g (x ∷ xs) h = ap (λ (y : B). y ∷ map f xs) (h x (inl refl)) ∙ ap (λ (l : List B). g x ∷ l) (map-alike f g xs (λ y i. h y (inr i)))

-- ---- how often a number stands in a list

pub in_times : (x : ℕ) (l : List ℕ) → In x l → 0 < times x l
in_times x l h = rw (count-times x l) at (count_in (λ y. eqb y x) x l h (eq-eqb x x refl))

pub times_in : (x : ℕ) (l : List ℕ) → 0 < times x l → In x l
times_in x l h =
    let k : 0 < count (λ y. eqb y x) l = rw (count-times x l) h in
    let (y, i, e) = in_count (λ y. eqb y x) l k in
    let z : y ≡ x = eqb-true y x e in
    rw z at i

-- ---- no number twice

pub different-at : (l : List ℕ) → Different l → (i j : ℕ) → i < j → j < length l → get_or l i 0 ≡ get_or l j 0 → ⊥
different-at [] o i j h k e = omega arith
different-at (x ∷ xs) o i zero h k e = omega arith
different-at (x ∷ xs) o zero (suc j) h k e = o.0 (rw e (in-get_or 0 xs j (omega arith)))
different-at (x ∷ xs) o (suc i) (suc j) h k e = different-at xs o.1 i j (omega arith) (omega arith) e

pub at-different : (l : List ℕ) → ((i j : ℕ) → i < j → j < length l → get_or l i 0 ≡ get_or l j 0 → ⊥) → Different l
at-different [] a = tt
at-different (x ∷ xs) a = (
  λ h. let r = get_or_in 0 x xs h in a 0 (suc r.0) (omega arith) (omega (arith, r.1)) (sym r.2),
  at-different xs (λ i j h k e. a (suc i) (suc j) (omega arith) (omega arith) e),
)
