-- Laws of the search for the first place. Assumes nothing.
use Rattle.std.specs.Prelude.{ℕ, zero, suc, ◌+◌, ◌-◌, ◌≤◌, ◌<◌, ◌≡◌, refl, Bool, true, false, cond}
use Rattle.std.proofs.Math.Path.{ap}
use Rattle.std.proofs.Common.{◌∙◌, subst, ⊎_elim, arith, add-one}
use Rattle.std.proofs.Math.Nat.{sub-zero}
use Rattle.lists.specs.Tests.{below?, same?}
use Rattle.records.specs.Search.{seek}

-- ---- the turns of a loop over the places below n: what is left gives the whole

module _ (p : ℕ → Bool) (i n : ℕ) (h : i < n) where
  one_less : n - i ≡ suc (n - (i + 1))
  one_less = omega arith

  pub seek_stop : p i ≡ true → seek p i (n - i) ≡ i
  unfolding seek
  seek_stop e = ap (seek p i) one_less ∙ rw e

  pub seek-on : p i ≡ false → seek p i (n - i) ≡ seek p (i + 1) (n - (i + 1))
  unfolding seek
  seek-on e = ap (seek p i) one_less ∙ rw (e, add-one)

pub seek-start : (p : ℕ → Bool) (n : ℕ) → seek p 0 (n - 0) ≡ seek p 0 n
seek-start p n = ap (seek p 0) (sub-zero n)

pub seek_end : (p : ℕ → Bool) (i n : ℕ) → n ≤ i → seek p i (n - i) ≡ i
unfolding seek
seek_end p i n h = ap (seek p i) (let e : n - i ≡ 0 = omega arith in e)

-- ---- what the place is

pub seek-from : (p : ℕ → Bool) (i k : ℕ) → i ≤ seek p i k
unfolding seek
seek-from p i zero = omega arith
seek-from p i (suc k) = go (p i) (seek-from p (suc i) k)
  where
    go : (t : Bool) → suc i ≤ seek p (suc i) k → i ≤ cond t i (seek p (suc i) k)
    go true r = omega arith
    go false r = omega arith

pub seek-to : (p : ℕ → Bool) (i k : ℕ) → seek p i k ≤ i + k
unfolding seek
seek-to p i zero = omega arith
seek-to p i (suc k) = go (p i) (seek-to p (suc i) k)
  where
    go : (t : Bool) → seek p (suc i) k ≤ suc i + k → cond t i (seek p (suc i) k) ≤ i + suc k
    go true r = omega arith
    go false r = omega arith

-- it passes, unless none does
pub seek-passes : (p : ℕ → Bool) (i k : ℕ) → seek p i k < i + k → p (seek p i k) ≡ true
unfolding seek
seek-passes p i zero h = absurd (omega arith)
seek-passes p i (suc k) h = go (p i) refl (seek-passes p (suc i) k) h
  where
    go : (t : Bool) → p i ≡ t → (seek p (suc i) k < suc i + k → p (seek p (suc i) k) ≡ true) → cond t i (seek p (suc i) k) < i + suc k → p (cond t i (seek p (suc i) k)) ≡ true
    go true e r g = e
    go false e r g = r (omega arith)

-- and none before it does
pub seek_before : (p : ℕ → Bool) (i k j : ℕ) → i ≤ j → j < seek p i k → p j ≡ false
unfolding seek
seek_before p i zero j g h = absurd (omega arith)
seek_before p i (suc k) j g h = go (p i) refl (seek_before p (suc i) k j) h
  where
    go : (t : Bool) → p i ≡ t → (suc i ≤ j → j < seek p (suc i) k → p j ≡ false) → j < cond t i (seek p (suc i) k) → p j ≡ false
    go true e r l = absurd (omega arith)
    go false e r l = ⊎_elim (λ (x : i ≡ j). subst (λ (y : ℕ). p y ≡ false) x e) (λ (x : i ≡ j → ⊥). r (apart x) l) (same? i j)
      where
        apart : (i ≡ j → ⊥) → suc i ≤ j
        apart x = ⊎_elim (λ (y : i < j). y) (λ (y : j ≤ i). absurd (x (omega arith))) (below? i j)

-- tests that agree on the places give the same place
pub seek-same : (p q : ℕ → Bool) (i k : ℕ) → ((j : ℕ) → i ≤ j → j < i + k → p j ≡ q j) → seek p i k ≡ seek q i k
unfolding seek
seek-same p q i zero h = refl
seek-same p q i (suc k) h = rw (h i (omega arith) (omega arith), seek-same p q (suc i) k (λ j g l. h j (omega arith) (omega arith)))
