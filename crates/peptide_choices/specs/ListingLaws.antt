-- The choices that pass are listed all, in order, and each once. Assumes nothing.
use Rattle.std.specs.Prelude.{ℕ, zero, suc, ◌+◌, ◌≤◌, ◌<◌, ◌≡◌, refl, Bool, true, false, cond, List, [], ◌∷◌, ◌++◌, map, ◌⊎◌, length}
use Rattle.std.proofs.Common.{sym, ap, subst, inl, inr, ⊎_elim, arith}
use Rattle.lists.specs.InLaws.{in_left, in_right, in_append, in_map, map_in, in_keep, keep_in}
use Rattle.lists.specs.KeepLaws.{all_both, all_keep}
use Rattle.lists.specs.Tests.{same?, below?}
use Rattle.lists.specs.Lists.{keep, In, All}
use Rattle.peptide_choices.specs.Choices.{choices_of, by_size}

-- ascending places from lo on, below hi
abbrev pub Ascending : ℕ → ℕ → List ℕ → Type 0
Ascending lo hi [] = Unit {0}
Ascending lo hi (a ∷ c) = (lo ≤ a) × (a < hi) × Ascending (suc a) hi c

-- the order of the listing: fewer places first, those of one size in lexicographic order
abbrev pub Smaller : List ℕ → List ℕ → Type 0
Smaller [] d = ⊥
Smaller (a ∷ c) [] = ⊥
Smaller (a ∷ c) (b ∷ d) = (a < b) ⊎ ((a ≡ b) × Smaller c d)

abbrev pub Earlier : List ℕ → List ℕ → Type 0
Earlier c d = (length c < length d) ⊎ ((length c ≡ length d) × Smaller c d)

-- each is earlier than all that follow
abbrev pub Rising : List (List ℕ) → Type 0
Rising [] = Unit {0}
Rising (c ∷ cs) = All (Earlier c) cs × Rising cs

-- ---- what holds of all, and what of each

module _ {A : Type 0} (P : A → Type 0) where
  pub all_in : (x : A) (xs : List A) → All P xs → In x xs → P x
  all_in x [] h x3 = elim x3 [ ]
  all_in x (y ∷ ys) h (inl e) = subst P (sym e) h.0
  all_in x (y ∷ ys) h (inr i) = all_in x ys h.1 i

  all_of : (xs : List A) → ((x : A) → In x xs → P x) → All P xs
  all_of [] h = tt
  all_of (x ∷ xs) h = (h x (inl refl), all_of xs (λ y i. h y (inr i)))

-- ---- none is earlier than itself, so that a rising list has each once

smaller_apart : (c : List ℕ) → Smaller c c → ⊥
smaller_apart [] h = h
smaller_apart (a ∷ c) h = ⊎_elim (λ (l : a < a). omega arith) (λ (e : (a ≡ a) × Smaller c c). smaller_apart c e.1) h

pub earlier_apart : (c : List ℕ) → Earlier c c → ⊥
earlier_apart c h = ⊎_elim (λ (l : length c < length c). omega arith) (λ (e : (length c ≡ length c) × Smaller c c). smaller_apart c e.1) h

pub rising-once : (c : List ℕ) (xs : List (List ℕ)) → Rising (c ∷ xs) → In c xs → ⊥
rising-once c xs o h = earlier_apart c (all_in (Earlier c) c xs o.0 h)

-- ---- lists joined

rising_append : (xs ys : List (List ℕ)) → Rising xs → Rising ys → ((x y : List ℕ) → In x xs → In y ys → Earlier x y) → Rising (xs ++ ys)
rising_append [] ys p q h = q
rising_append (x ∷ xs) ys p q h = (all_both (Earlier x) xs ys p.0 (all_of (Earlier x) ys (λ y i. h x y (inl refl) i)), rising_append xs ys p.1 q (λ z y i j. h z y (inr i) j))

-- ---- a place in front of each

earlier_under : (a : ℕ) (c : List ℕ) (xs : List (List ℕ)) → All (Earlier c) xs → All (Earlier (a ∷ c)) (map (λ (d : List ℕ). a ∷ d) xs)
earlier_under a c [] b = tt
earlier_under a c (x ∷ xs) b = (⊎_elim (λ (l : length c < length x). inl (omega arith)) (λ (e : (length c ≡ length x) × Smaller c x). inr (ap suc e.0, inr (refl, e.1))) b.0, earlier_under a c xs b.1)

rising_under : (a : ℕ) (xs : List (List ℕ)) → Rising xs → Rising (map (λ (d : List ℕ). a ∷ d) xs)
rising_under a [] o = tt
rising_under a (x ∷ xs) o = (earlier_under a x xs o.0, rising_under a xs o.1)

-- ---- the choices of one size

later : (lo hi : ℕ) (c : List ℕ) → Ascending (suc lo) hi c → Ascending lo hi c
later lo hi [] h = tt
later lo hi (a ∷ c) h = (omega (arith, h.0), h.1, h.2)

pub choices-all : (n len lo : ℕ) (c : List ℕ) → Ascending lo (lo + len) c → length c ≡ n → In c (choices_of n len lo)
unfolding choices_of
choices-all zero len lo [] h e = inl refl
choices-all zero len lo (a ∷ c) h e = absurd (omega arith)
choices-all (suc n) len lo [] h e = absurd (omega arith)
choices-all (suc n) zero lo (a ∷ c) h e = absurd (omega (arith, h.0, h.1))
choices-all (suc n) (suc len) lo (a ∷ c) h e = go (choices-all n len (suc lo) c) (choices-all (suc n) len (suc lo) (a ∷ c)) (same? a lo)
  where
    s : suc lo + len ≡ lo + suc len
    s = omega arith

    go : (Ascending (suc lo) (suc lo + len) c → length c ≡ n → In c (choices_of n len (suc lo)))
        → (Ascending (suc lo) (suc lo + len) (a ∷ c) → suc (length c) ≡ suc n → In (a ∷ c) (choices_of (suc n) len (suc lo)))
        → (a ≡ lo) ⊎ (a ≡ lo → ⊥) → In (a ∷ c) (map (λ (d : List ℕ). lo ∷ d) (choices_of n len (suc lo)) ++ choices_of (suc n) len (suc lo))
    go i j (inl q) =
        let t : Ascending (suc lo) (suc lo + len) c = subst (λ (z : ℕ). Ascending (suc lo) z c) (sym s) (subst (λ (z : ℕ). Ascending (suc z) (lo + suc len) c) q h.2) in
        subst (λ (z : ℕ). In (z ∷ c) (map (λ (d : List ℕ). lo ∷ d) (choices_of n len (suc lo)) ++ choices_of (suc n) len (suc lo))) (sym q)
        (in_left (lo ∷ c) (map (λ (d : List ℕ). lo ∷ d) (choices_of n len (suc lo))) (choices_of (suc n) len (suc lo)) (in_map (λ (d : List ℕ). lo ∷ d) c (choices_of n len (suc lo)) (i t (omega arith))))
    go i j (inr q) =
        let p : suc lo ≤ a = ⊎_elim (λ (l : lo < a). l) (λ (l : a ≤ lo). absurd (q (omega (arith, h.0)))) (below? lo a) in
        let t : Ascending (suc lo) (suc lo + len) (a ∷ c) = (p, omega (arith, h.1), subst (λ (z : ℕ). Ascending (suc a) z c) (sym s) h.2) in
        in_right (a ∷ c) (map (λ (d : List ℕ). lo ∷ d) (choices_of n len (suc lo))) (choices_of (suc n) len (suc lo)) (j t e)

pub choices_only : (n len lo : ℕ) (c : List ℕ) → In c (choices_of n len lo) → Ascending lo (lo + len) c × (length c ≡ n)
unfolding choices_of
choices_only zero len lo c h = ⊎_elim (λ (e : c ≡ []). subst (λ (z : List ℕ). Ascending lo (lo + len) z × (length z ≡ 0)) (sym e) (tt, refl)) (λ (x : ⊥). absurd x) h
choices_only (suc n) zero lo c h = absurd h
choices_only (suc n) (suc len) lo c h = ⊎_elim (λ i. with_lo (choices_only n len (suc lo)) i) (λ i. without (choices_only (suc n) len (suc lo) c i)) (in_append c (map (λ (d : List ℕ). lo ∷ d) (choices_of n len (suc lo))) (choices_of (suc n) len (suc lo)) h)
  where
    s : suc lo + len ≡ lo + suc len
    s = omega arith

    with_lo : ((d : List ℕ) → In d (choices_of n len (suc lo)) → Ascending (suc lo) (suc lo + len) d × (length d ≡ n)) → In c (map (λ (d : List ℕ). lo ∷ d) (choices_of n len (suc lo))) → Ascending lo (lo + suc len) c × (length c ≡ suc n)
    with_lo rest i =
        let r = map_in (λ (d : List ℕ). lo ∷ d) c (choices_of n len (suc lo)) i in
        let q = rest r.0 r.1 in
        subst (λ (z : List ℕ). Ascending lo (lo + suc len) z × (length z ≡ suc n)) (sym r.2) ((omega arith, omega arith, subst (λ (z : ℕ). Ascending (suc lo) z r.0) s q.0), ap suc q.1)

    without : Ascending (suc lo) (suc lo + len) c × (length c ≡ suc n) → Ascending lo (lo + suc len) c × (length c ≡ suc n)
    without q = (later lo (lo + suc len) c (subst (λ (z : ℕ). Ascending (suc lo) z c) s q.0), q.1)

pub choices-rising : (n len lo : ℕ) → Rising (choices_of n len lo)
unfolding choices_of
choices-rising zero len lo = (tt, tt)
choices-rising (suc n) zero lo = tt
choices-rising (suc n) (suc len) lo =
    rising_append (map (λ (d : List ℕ). lo ∷ d) (choices_of n len (suc lo))) (choices_of (suc n) len (suc lo))
    (rising_under lo (choices_of n len (suc lo)) (choices-rising n len (suc lo)))
    (choices-rising (suc n) len (suc lo))
    cross
  where
    -- one that begins with lo stands before one that begins later
    first : (d y : List ℕ) → length d ≡ n → length y ≡ suc n → Ascending (suc lo) (suc lo + len) y → Earlier (lo ∷ d) y
    first d [] p q h = absurd (omega arith)
    first d (b ∷ y) p q h = inr (ap suc (let e : length d ≡ length y = omega arith in e), inl h.0)

    cross : (x y : List ℕ) → In x (map (λ (d : List ℕ). lo ∷ d) (choices_of n len (suc lo))) → In y (choices_of (suc n) len (suc lo)) → Earlier x y
    cross x y i j =
        let r = map_in (λ (d : List ℕ). lo ∷ d) x (choices_of n len (suc lo)) i in
        let p = choices_only n len (suc lo) r.0 r.1 in
        let q = choices_only (suc n) len (suc lo) y j in
        subst (λ (z : List ℕ). Earlier z y) (sym r.2) (first r.0 y p.1 q.1 q.0)

-- ---- the choices of all sizes

pub sizes-all : (m n k : ℕ) (c : List ℕ) → Ascending 0 m c → n ≤ length c → length c < n + k → In c (by_size m n k)
unfolding by_size
sizes-all m n zero c h p q = absurd (omega arith)
sizes-all m n (suc k) c h p q = go (λ g. sizes-all m (suc n) k c h g (omega arith)) (same? (length c) n)
  where
    go : (suc n ≤ length c → In c (by_size m (suc n) k)) → (length c ≡ n) ⊎ (length c ≡ n → ⊥) → In c (choices_of n m 0 ++ by_size m (suc n) k)
    go r (inl e) = in_left c (choices_of n m 0) (by_size m (suc n) k) (choices-all n m 0 c (subst (λ (z : ℕ). Ascending 0 z c) (let s : m ≡ 0 + m = omega arith in s) h) e)
    go r (inr e) =
        let g : suc n ≤ length c = ⊎_elim (λ (l : n < length c). l) (λ (l : length c ≤ n). absurd (e (omega arith))) (below? n (length c)) in
        in_right c (choices_of n m 0) (by_size m (suc n) k) (r g)

pub sizes_only : (m n k : ℕ) (c : List ℕ) → In c (by_size m n k) → Ascending 0 m c × (n ≤ length c) × (length c < n + k)
unfolding by_size
sizes_only m n zero c h = absurd h
sizes_only m n (suc k) c h = ⊎_elim here (λ i. more (sizes_only m (suc n) k c i)) (in_append c (choices_of n m 0) (by_size m (suc n) k) h)
  where
    here : In c (choices_of n m 0) → Ascending 0 m c × (n ≤ length c) × (length c < n + suc k)
    here i =
        let q = choices_only n m 0 c i in
        (subst (λ (z : ℕ). Ascending 0 z c) (let s : 0 + m ≡ m = omega arith in s) q.0, omega (arith, q.1), omega (arith, q.1))

    more : Ascending 0 m c × (suc n ≤ length c) × (length c < suc n + k) → Ascending 0 m c × (n ≤ length c) × (length c < n + suc k)
    more q = (q.0, omega (arith, q.1), omega (arith, q.2))

pub sizes-rising : (m n k : ℕ) → Rising (by_size m n k)
unfolding by_size
sizes-rising m n zero = tt
sizes-rising m n (suc k) = rising_append (choices_of n m 0) (by_size m (suc n) k) (choices-rising n m 0) (sizes-rising m (suc n) k) cross
  where
    cross : (x y : List ℕ) → In x (choices_of n m 0) → In y (by_size m (suc n) k) → Earlier x y
    cross x y i j = inl (omega (arith, (choices_only n m 0 x i).1, (sizes_only m (suc n) k y j).1))

-- ---- those that pass

module _ (ok : List ℕ → Bool) where
  keep-rising : (xs : List (List ℕ)) → Rising xs → Rising (keep ok xs)
  keep-rising [] o = tt
  keep-rising (x ∷ xs) o = go (ok x) (keep-rising xs o.1)
    where
      go : (b : Bool) → Rising (keep ok xs) → Rising (cond b (x ∷ keep ok xs) (keep ok xs))
      go true r = (all_keep (Earlier x) ok xs o.0, r)
      go false r = r

  -- ---- the law: of the first m places, each choice of 1 to limit places that passes is listed, no other is, and the
  -- list is in order, so that each is listed once
  pub record Complete (m limit : ℕ) (list : List (List ℕ)) : Type 0 where
    pub all : (c : List ℕ) → Ascending 0 m c → 1 ≤ length c → length c ≤ limit → ok c ≡ true → In c list
    pub only : (c : List ℕ) → In c list → Ascending 0 m c × (1 ≤ length c) × (length c ≤ limit) × (ok c ≡ true)
    pub order : Rising list

  pub listing_complete : (m limit : ℕ) → Complete m limit (keep ok (by_size m 1 limit))
  listing_complete m limit = record { all = every; only = none_else; order = keep-rising (by_size m 1 limit) (sizes-rising m 1 limit) }
    where
      every : (c : List ℕ) → Ascending 0 m c → 1 ≤ length c → length c ≤ limit → ok c ≡ true → In c (keep ok (by_size m 1 limit))
      every c h p q e = in_keep c ok (by_size m 1 limit) (sizes-all m 1 limit c h p (omega arith)) e

      none_else : (c : List ℕ) → In c (keep ok (by_size m 1 limit)) → Ascending 0 m c × (1 ≤ length c) × (length c ≤ limit) × (ok c ≡ true)
      none_else c i =
          let r = keep_in c ok (by_size m 1 limit) i in
          let q = sizes_only m 1 limit c r.0 in
          (q.0, q.1, omega (arith, q.2), r.1)
