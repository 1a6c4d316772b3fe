-- Laws of sums over the first numbers. Assumes nothing.
use Rattle.std.specs.Prelude.{ℕ, zero, suc, ◌+◌, ◌*◌, ◌≤◌, ◌<◌, ◌≡◌, refl, cond, ◌⊎◌, eqb}
use Rattle.std.proofs.Common.{sym, ap₂, inl, inr, arith, add-mul, eq-eqb, ne_eqb}
use Rattle.lists.specs.Tests.{same?, below?}
use Rattle.enzyme_windows.specs.Weights.{sum_to}

pub sum_alike : (f g : ℕ → ℕ) (m : ℕ) → ((i : ℕ) → i < m → f i ≡ g i) → sum_to f m ≡ sum_to g m
sum_alike f g zero h = refl
sum_alike f g (suc m) h = ap₂ (λ (a b : ℕ). a + b) (h m (omega arith)) (sum_alike f g m (λ i l. h i (omega arith)))

pub sum-none : (f : ℕ → ℕ) (m : ℕ) → ((i : ℕ) → i < m → f i ≡ 0) → sum_to f m ≡ 0
sum-none f zero h = refl
sum-none f (suc m) h = let a = h m (omega arith) in let b = sum-none f m (λ i l. h i (omega arith)) in omega arith

pub sum_plus : (f g : ℕ → ℕ) (m : ℕ) → sum_to (λ i. f i + g i) m ≡ sum_to f m + sum_to g m
sum_plus f g zero = refl
sum_plus f g (suc m) = let a = sum_plus f g m in omega arith

pub sum-times : (f : ℕ → ℕ) (c m : ℕ) → sum_to (λ i. f i * c) m ≡ sum_to f m * c
sum-times f c zero = omega arith
sum-times f c (suc m) = rw (sum-times f c m) (sym (add-mul (f m) (sum_to f m) c))

-- it does not matter which of two sums stands inside
pub sum_swap : (f : ℕ → ℕ → ℕ) (m n : ℕ) → sum_to (λ i. sum_to (f i) n) m ≡ sum_to (λ j. sum_to (λ i. f i j) m) n
sum_swap f zero n = sym (sum-none (λ j. 0) n (λ j h. refl))
sum_swap f (suc m) n = rw (sum_swap f m n) (sym (sum_plus (f m) (λ j. sum_to (λ i. f i j) m) n))

-- one of the numbers counts
pub sum_one : (f : ℕ → ℕ) (a x m : ℕ) → a < m → f a ≡ x → ((i : ℕ) → i < m → (i ≡ a → ⊥) → f i ≡ 0) → sum_to f m ≡ x
sum_one f a x zero l h z = absurd (omega arith)
sum_one f a x (suc m) l h z = go (below? a m) (λ k. sum_one f a x m k h (λ i o d. z i (omega arith) d))
  where
    go : (a < m) ⊎ (m ≤ a) → (a < m → sum_to f m ≡ x) → f m + sum_to f m ≡ x
    go (inl k) ih = let b = z m (omega arith) (λ e. omega arith) in let c = ih k in omega arith
    go (inr k) ih =
        let e : a ≡ m = omega arith in
        let b : f m ≡ x = rw e at h in
        let c = sum-none f m (λ i o. z i (omega arith) (λ d. omega arith)) in
        omega arith

-- 1 for a alone; and numbers without that of a
abbrev one_at : ℕ → ℕ → ℕ
one_at a j = cond (eqb a j) 1 0

abbrev without : ℕ → (ℕ → ℕ) → ℕ → ℕ
without a f j = cond (eqb a j) 0 (f j)

-- numbers that are 1 exactly at len different places add up to len
pub count_places : (w : ℕ → ℕ) (m len : ℕ) (f : ℕ → ℕ) → ((a b : ℕ) → a < b → b < len → w a ≡ w b → ⊥) → ((a : ℕ) → a < len → w a < m)
    → ((a : ℕ) → a < len → f (w a) ≡ 1) → ((j : ℕ) → j < m → ((a : ℕ) → a < len → w a ≡ j → ⊥) → f j ≡ 0) → sum_to f m ≡ len
count_places w m zero f apart inside hit miss = sum-none f m (λ j h. miss j h (λ a l e. omega arith))
count_places w m (suc len) f apart inside hit miss =
    let one = sum_one (one_at (w len)) (w len) 1 m (inside len (omega arith)) (rw (eq-eqb (w len) (w len) refl)) (λ j h d. rw (ne_eqb (w len) j (λ e. d (sym e)))) in
    let rest = count_places w m len (without (w len) f) (λ a b l h e. apart a b l (omega arith) e) (λ a l. inside a (omega arith))
    (λ a l. rw (ne_eqb (w len) (w a) (λ e. apart a len l (omega arith) (sym e))) (hit a (omega arith)))
    (λ j h none. missed j h none (same? (w len) j)) in
    let both = sum_plus (one_at (w len)) (without (w len) f) m in
    let same = sum_alike f (λ j. one_at (w len) j + without (w len) f j) m (λ j h. split j (same? (w len) j)) in
    omega arith
  where
    missed : (j : ℕ) → j < m → ((a : ℕ) → a < len → w a ≡ j → ⊥) → (w len ≡ j) ⊎ (w len ≡ j → ⊥) → without (w len) f j ≡ 0
    missed j h none (inl e) = rw (eq-eqb (w len) j e)
    missed j h none (inr d) = rw (ne_eqb (w len) j d) (miss j h (λ a l e. last a l e (below? a len)))
      where
        last : (a : ℕ) → a < suc len → w a ≡ j → (a < len) ⊎ (len ≤ a) → ⊥
        last a l e (inl k) = none a k e
        last a l e (inr k) = let z : a ≡ len = omega arith in d (rw z at e)

    split : (j : ℕ) → (w len ≡ j) ⊎ (w len ≡ j → ⊥) → f j ≡ one_at (w len) j + without (w len) f j
    split j (inl e) = rw (eq-eqb (w len) j e) (rw e at (hit len (omega arith)))
    split j (inr d) = rw (ne_eqb (w len) j d) (omega arith)
