-- Laws of lists: what holds of all of a list, how many pass a test, which are kept. Assumes nothing.
use Rattle.std.specs.Prelude.{Bool, true, false, ◌&&◌, ◌||◌, cond, List, [], ◌∷◌, ◌++◌, map, ℕ, suc, ◌+◌, ◌≤◌, ◌<◌, ltb, eqb, length, ◌≡◌, refl}
use Rattle.std.proofs.Math.Bool.{or-false, and-true}
use Rattle.std.proofs.Common.{true≢false, sym, ap, ◌∙◌, arith, ltb-true, lt-ltb}
use Rattle.lists.specs.Lists.{keep, bit, count, some, times, All}

module _ {A : Type 0} where
  pub all_map : {P Q : A → Type 0} → ((e : A) → P e → Q e) → (l : List A) → All P l → All Q l
  all_map f [] h = tt
  all_map f (e ∷ l) h = (f e h.0, all_map f l h.1)

  pub all_keep : (P : A → Type 0) (q : A → Bool) (l : List A) → All P l → All P (keep q l)
  all_keep P q [] h = tt
  all_keep P q (e ∷ l) h = go (q e) (all_keep P q l h.1)
    where
      go : (b : Bool) → All P (keep q l) → All P (cond b (e ∷ keep q l) (keep q l))
      go true r = (h.0, r)
      go false r = r

  pub count_ext : (p q : A → Bool) (l : List A) → All (λ e. p e ≡ q e) l → count p l ≡ count q l
  count_ext p q [] h = refl
  count_ext p q (e ∷ l) h = rw (h.0, count_ext p q l h.1)

  pub count-keep : (p q : A → Bool) (l : List A) → count p (keep q l) ≡ count (λ e. q e && p e) l
  count-keep p q [] = refl
  count-keep p q (e ∷ l) = go (q e) (count-keep p q l)
    where
      go : (b : Bool) → count p (keep q l) ≡ count (λ d. q d && p d) l → count p (cond b (e ∷ keep q l) (keep q l)) ≡ bit (b && p e) + count (λ d. q d && p d) l
      go true r = rw r
      go false r = omega arith

  pub length-count : (l : List A) → length l ≡ count (λ e. true) l
  length-count [] = refl
  length-count (e ∷ l) = rw (length-count l) (omega arith)

  pub count-le : (p : A → Bool) (l : List A) → count p l ≤ length l
  count-le p [] = omega arith
  count-le p (e ∷ l) = go (p e) (count-le p l)
    where
      go : (b : Bool) → count p l ≤ length l → bit b + count p l ≤ suc (length l)
      go true h = omega arith
      go false h = omega arith

  pub length-keep : (q : A → Bool) (l : List A) → length (keep q l) ≡ count q l
  length-keep q l = length-count (keep q l) ∙ count-keep (λ e. true) q l ∙ count_ext (λ e. q e && true) q l (all_true l)
    where
      all_true : (k : List A) → All (λ e. (q e && true) ≡ q e) k
      all_true [] = tt
      all_true (e ∷ k) = (and-true (q e), all_true k)

  pub keep_all : (q : A → Bool) (l : List A) → length (keep q l) ≡ length l → All (λ e. q e ≡ true) l
  keep_all q [] h = tt
  keep_all q (e ∷ l) h = go (q e) refl h (keep_all q l)
    where
      go : (b : Bool) → q e ≡ b → length (cond b (e ∷ keep q l) (keep q l)) ≡ suc (length l) → (length (keep q l) ≡ length l → All (λ d. q d ≡ true) l)
          → (q e ≡ true) × All (λ d. q d ≡ true) l
      go true i n r = (i, r (omega arith))
      go false i n r = absurd (omega (arith, length-keep q l, count-le q l))

  pub keep_same : (q : A → Bool) (l : List A) → All (λ e. q e ≡ true) l → keep q l ≡ l
  keep_same q [] h = refl
  keep_same q (e ∷ l) h = rw (h.0, keep_same q l h.1)

  pub count_none : (p : A → Bool) (l : List A) → All (λ e. p e ≡ false) l → count p l ≡ 0
  count_none p [] h = refl
  count_none p (e ∷ l) h = rw (h.0, count_none p l h.1)

  pub none : (p : A → Bool) (l : List A) → All (λ e. p e ≡ false) l → some p l ≡ false
  none p l h = rw (count_none p l h)

  pub count_append : (p : A → Bool) (A B : List A) → count p (A ++ B) ≡ count p A + count p B
  count_append p [] B = omega arith
  count_append p (a ∷ A) B = omega (arith, count_append p A B)

  -- an edge of the list is counted by every test that it passes
  pub all-has : (l : List A) → All (λ e. (p : A → Bool) → p e ≡ true → 0 < count p l) l
  all-has [] = tt
  all-has (d ∷ l) =
      (λ p i. rw i (omega arith), all_map (λ e h p i. omega (arith, h p i)) l (all-has l))

  pub count_mono : (p q : A → Bool) → ((e : A) → p e ≡ true → q e ≡ true) → (l : List A) → count p l ≤ count q l
  count_mono p q h [] = omega arith
  count_mono p q h (e ∷ l) = go (p e) refl (count_mono p q h l)
    where
      go : (b : Bool) → p e ≡ b → count p l ≤ count q l → bit b + count p l ≤ bit (q e) + count q l
      go true i m = rw (h e i) (omega arith)
      go false i m = omega arith

  pub some_mono : (p q : A → Bool) → ((e : A) → p e ≡ true → q e ≡ true) → (l : List A) → some p l ≡ true → some q l ≡ true
  some_mono p q h l i = lt-ltb 0 (count q l) (omega (arith, ltb-true 0 (count p l) i, count_mono p q h l))

  pub all_append : (P : A → Type 0) (A B : List A) → All P (A ++ B) → All P A × All P B
  all_append P [] B h = (tt, h)
  all_append P (a ∷ A) B h = let (x, y) = all_append P A B h.1 in ((h.0, x), y)

  pub all_both : (P : A → Type 0) (xs ys : List A) → All P xs → All P ys → All P (xs ++ ys)
  all_both P [] ys h k = k
  all_both P (x ∷ xs) ys h k = (h.0, all_both P xs ys h.1 k)

  pub all-kept : (q : A → Bool) (l : List A) → All (λ e. q e ≡ true) (keep q l)
  all-kept q [] = tt
  all-kept q (e ∷ l) = go (q e) refl (all-kept q l)
    where
      go : (b : Bool) → q e ≡ b → All (λ d. q d ≡ true) (keep q l) → All (λ d. q d ≡ true) (cond b (e ∷ keep q l) (keep q l))
      go true i r = (i, r)
      go false i r = r

  pub some-none : (p : A → Bool) (l : List A) → some p l ≡ false → All (λ e. p e ≡ false) l
  some-none p l i = all_map (λ e h. go e h (p e) refl) l (all-has l)
    where
      go : (e : A) → ((q : A → Bool) → q e ≡ true → 0 < count q l) → (b : Bool) → p e ≡ b → p e ≡ false
      go e h true j = absurd (true≢false (sym (lt-ltb 0 (count p l) (h p j)) ∙ i))
      go e h false j = j

  pub all_two : (P Q : A → Type 0) (l : List A) → All P l → All Q l → All (λ e. P e × Q e) l
  all_two P Q [] a b = tt
  all_two P Q (e ∷ l) a b = ((a.0, b.0), all_two P Q l a.1 b.1)

  pub keep-keep : (p q : A → Bool) (l : List A) → keep p (keep q l) ≡ keep (λ e. q e && p e) l
  keep-keep p q [] = refl
  keep-keep p q (e ∷ l) = go (q e) (p e) (keep-keep p q l)
    where
      go : (a b : Bool) → keep p (keep q l) ≡ keep (λ d. q d && p d) l
          → keep p (cond a (e ∷ keep q l) (keep q l)) ≡ cond (a && p e) (e ∷ keep (λ d. q d && p d) l) (keep (λ d. q d && p d) l)
      go true b r = rw r
      go false b r = r

  pub keep_ext : (p q : A → Bool) (l : List A) → All (λ e. p e ≡ q e) l → keep p l ≡ keep q l
  keep_ext p q [] h = refl
  keep_ext p q (e ∷ l) h = rw (h.0, keep_ext p q l h.1)

  -- ---- some edge
  pub every : (P : A → Type 0) → ((e : A) → P e) → (l : List A) → All P l
  every P h [] = tt
  every P h (e ∷ l) = (h e, every P h l)

  some_cons : (p : A → Bool) (e : A) (l : List A) → some p (e ∷ l) ≡ (p e || some p l)
  some_cons p e l = go (p e)
    where
      go : (b : Bool) → ltb 0 (bit b + count p l) ≡ (b || ltb 0 (count p l))
      go true = lt-ltb 0 (1 + count p l) (omega arith)
      go false = let z : 0 + count p l ≡ count p l = omega arith in ap (ltb 0) z

  pub some_app : (p : A → Bool) (l : List A) (e : A) → some p (l ++ (e ∷ [])) ≡ (some p l || p e)
  some_app p [] e = some_cons p e [] ∙ or-false (p e)
  some_app p (d ∷ l) e = some_cons p d (l ++ (e ∷ [])) ∙ rw (some_app p l e, some_cons p d l) (go (p d))
    where
      go : (b : Bool) → (b || (some p l || p e)) ≡ ((b || some p l) || p e)
      go true = refl
      go false = refl

-- one test
module _ {A : Type 0} (p : A → Bool) where
  pub keep_append : (xs ys : List A) → keep p (xs ++ ys) ≡ keep p xs ++ keep p ys
  keep_append [] ys = refl
  keep_append (x ∷ xs) ys = go (p x) (keep_append xs ys)
    where
      go : (t : Bool) → keep p (xs ++ ys) ≡ keep p xs ++ keep p ys → cond t (x ∷ keep p (xs ++ ys)) (keep p (xs ++ ys)) ≡ cond t (x ∷ keep p xs) (keep p xs) ++ keep p ys
      go true r = ap (λ (l : List A). x ∷ l) r
      go false r = r

  pub keep_snoc : (xs : List A) (x : A) → keep p (xs ++ (x ∷ [])) ≡ keep p xs ++ cond (p x) (x ∷ []) []
  keep_snoc xs x = keep_append xs (x ∷ [])

  pub keep-length : (xs : List A) → length (keep p xs) ≤ length xs
  keep-length [] = omega arith
  keep-length (x ∷ xs) = go (p x) (keep-length xs)
    where
      go : (t : Bool) → length (keep p xs) ≤ length xs → length (cond t (x ∷ keep p xs) (keep p xs)) ≤ suc (length xs)
      go true r = omega arith
      go false r = omega arith

pub keep-map : {A B : Type 0} (f : A → B) (t : B → Bool) (l : List A) → keep t (map f l) ≡ map f (keep (λ x. t (f x)) l)
keep-map f t [] = refl
keep-map {B = B} f t (x ∷ xs) = go (t (f x)) (keep-map f t xs)
  where
    go : (b : Bool) → keep t (map f xs) ≡ map f (keep (λ x. t (f x)) xs) → cond b (f x ∷ keep t (map f xs)) (keep t (map f xs)) ≡ map f (cond b (x ∷ keep (λ x. t (f x)) xs) (keep (λ x. t (f x)) xs))
    go true r = ap (λ (l : List B). f x ∷ l) r
    go false r = r

pub count-times : (c : ℕ) (l : List ℕ) → count (λ x. eqb x c) l ≡ times c l
count-times c [] = refl
count-times c (x ∷ xs) = go (eqb x c) (count-times c xs)
  where
    go : (t : Bool) → count (λ x. eqb x c) xs ≡ times c xs → bit t + count (λ x. eqb x c) xs ≡ cond t (suc (times c xs)) (times c xs)
    go true r = omega arith
    go false r = omega arith

-- what holds of all that f makes
pub map-all : {A B : Type 0} (P : B → Type 0) (f : A → B) → ((x : A) → P (f x)) → (xs : List A) → All P (map f xs)
map-all P f h [] = tt
map-all P f h (x ∷ xs) = (h x, map-all P f h xs)
