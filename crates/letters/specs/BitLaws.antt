-- Laws of the bits of numbers: of a union with one bit, of what two numbers share, of the low bits. Assumes nothing.
use Rattle.std.specs.Prelude.{◌≡◌, ℕ, zero, suc, ◌+◌, ◌-◌, ◌*◌, ◌/◌, ◌%◌, ◌^◌, ◌<◌, ◌≤◌, Bool, true, false, ◌&&◌, ◌||◌, ◌⊎◌, ◌==◌, ◌≢◌, bit_and, bit_or, nat_eq, refl}
use Rattle.std.proofs.Common.{sym, ap, ◌∙◌, subst, inl, inr, ⊎_elim, div-one, mul-div_cancel, mod-lt, div-lt_iff_lt-mul, lt_trans, arith, add-one, pow_pos, pow-add, shr-shr, eqb-true}
use Rattle.std.proofs.Math.Nat.{div-eq_of_lt, div_self, mul-mod_left}
use Rattle.std.proofs.Math.Pow.{pow-lt, field, mod-mod-pow}
use Rattle.std.proofs.lemmas.Nat.{or_shr, or_mod, and_shr, and_mod}
use Rattle.std.proofs.lemmas.Bool.{eqb-false}
use Rattle.lists.specs.Tests.{below?}
use Rattle.letters.specs.Letters.{bit_set}

-- bit k of m as a digit
abbrev pub digit : ℕ → ℕ → ℕ
digit m k = m / 2 ^ k % 2

two_ways : (x : ℕ) → x < 2 → (x ≡ 0) ⊎ (x ≡ 1)
two_ways zero h = inl refl
two_ways (suc zero) h = inr refl
two_ways (suc (suc x)) h = absurd (no h)
  where
    no : suc (suc x) < 2 → ⊥
    no g = omega arith

pub digit_ways : (m k : ℕ) → (digit m k ≡ 0) ⊎ (digit m k ≡ 1)
digit_ways m k = two_ways (digit m k) (mod-lt (m / 2 ^ k) (omega arith))

-- ---- a union with one bit

pow_same : (k j : ℕ) → j ≡ k → digit (2 ^ k) j ≡ 1
pow_same k j e = rw e (ap (λ (x : ℕ). x % 2) (div_self (pow_pos k)))

-- j below k: 2 ^ k is an even multiple of 2 ^ j
pow_below : (k j : ℕ) → j < k → digit (2 ^ k) j ≡ 0
pow_below k j h =
    let e : k ≡ (k - suc j) + 1 + j = omega arith in
    let f : 2 ^ k ≡ 2 ^ (k - suc j) * 2 * 2 ^ j =
    ap (λ (x : ℕ). 2 ^ x) e ∙ pow-add 2 (k - suc j + 1) j ∙ ap (λ (x : ℕ). x * 2 ^ j) (pow-add 2 (k - suc j) 1) in
    ap (λ (x : ℕ). x / 2 ^ j % 2) f
    ∙ ap (λ (x : ℕ). x % 2) (mul-div_cancel (2 ^ (k - suc j) * 2) (pow_pos j))
    ∙ mul-mod_left (2 ^ (k - suc j)) 2

pow_other : (k j : ℕ) → (j ≢ k) → digit (2 ^ k) j ≡ 0
pow_other k j h = ⊎_elim (pow_below k j) above (below? j k)
  where
    above : k ≤ j → digit (2 ^ k) j ≡ 0
    above g = ⊎_elim (λ (l : k < j). ap (λ (x : ℕ). x % 2) (div-eq_of_lt (pow-lt l))) (λ (l : j ≤ k). absurd (h (omega arith))) (below? k j)

or_digit : (m n k : ℕ) → digit (bit_or m n) k ≡ bit_or (digit m k) (digit n k)
or_digit m n k = ap (λ (x : ℕ). x % 2) (or_shr m n k) ∙ or_mod (m / 2 ^ k) (n / 2 ^ k) 1

pub bit-insert : (m k j : ℕ) → bit_set (bit_or m (2 ^ k)) j ≡ (j == k || bit_set m j)
unfolding bit_set
bit-insert m k j = go (j == k) refl (digit_ways m j)
  where
    go : (b : Bool) → (j == k) ≡ b → (digit m j ≡ 0) ⊎ (digit m j ≡ 1) → (digit (bit_or m (2 ^ k)) j == 1) ≡ (b || digit m j == 1)
    go true e (inl z) = simp (or_digit, z, pow_same k j (eqb-true j k e))
    go true e (inr z) = simp (or_digit, z, pow_same k j (eqb-true j k e))
    go false e (inl z) = simp (or_digit, z, pow_other k j (eqb-false j k e))
    go false e (inr z) = simp (or_digit, z, pow_other k j (eqb-false j k e))

-- ---- what two numbers share

and_digit : (m n k : ℕ) → digit (bit_and m n) k ≡ bit_and (digit m k) (digit n k)
and_digit m n k = ap (λ (x : ℕ). x % 2) (and_shr m n k) ∙ and_mod (m / 2 ^ k) (n / 2 ^ k) 1

pub bit-shared : (m n k : ℕ) → bit_set (bit_and m n) k ≡ (bit_set m k && bit_set n k)
unfolding bit_set
bit-shared m n k = go (digit_ways m k) (digit_ways n k)
  where
    go : (digit m k ≡ 0) ⊎ (digit m k ≡ 1) → (digit n k ≡ 0) ⊎ (digit n k ≡ 1) → (digit (bit_and m n) k == 1) ≡ (digit m k == 1 && digit n k == 1)
    go (inl x) (inl y) = simp (and_digit, x, y)
    go (inl x) (inr y) = simp (and_digit, x, y)
    go (inr x) (inl y) = simp (and_digit, x, y)
    go (inr x) (inr y) = simp (and_digit, x, y)

-- ---- the low bits

-- the low w bits of a number are its own
pub bit_low : (w m k : ℕ) → k < w → bit_set (m % 2 ^ w) k ≡ bit_set m k
unfolding bit_set
bit_low w m k h =
    let j : ℕ = w - suc k in
    let e : w ≡ (j + 1) + k = omega arith in
    let f : m % 2 ^ w / 2 ^ k ≡ m / 2 ^ k % 2 ^ (j + 1) = ap (λ (x : ℕ). m % 2 ^ x / 2 ^ k) e ∙ field m (j + 1) k in
    rw (f, mod-mod-pow (m / 2 ^ k) j 1)

-- it has no bit above them
pub bit_high : (w m k : ℕ) → w ≤ k → bit_set (m % 2 ^ w) k ≡ false
unfolding bit_set
bit_high w m k h =
    let small : m % 2 ^ w < 2 ^ k = ⊎_elim (λ (g : w < k). lt_trans (mod-lt m (pow_pos w)) (pow-lt g)) (λ (g : k ≤ w). let e : w ≡ k = omega arith in subst (λ (x : ℕ). m % 2 ^ w < 2 ^ x) e (mod-lt m (pow_pos w))) (below? w k) in
    rw (div-eq_of_lt small)

same_digits : (w m n : ℕ) → m < 2 ^ w → n < 2 ^ w → ((k : ℕ) → k < w → digit m k ≡ digit n k) → m ≡ n
same_digits zero m n hm hn h = omega arith
same_digits (suc w) m n hm hn h =
    let p : 2 ^ suc w ≡ 2 ^ w * 2 = ap (λ (x : ℕ). 2 ^ x) (sym (add-one w)) ∙ pow-add 2 w 1 in
    let lm : m / 2 < 2 ^ w = (div-lt_iff_lt-mul {k = 2} (omega arith)).1 (subst (λ (x : ℕ). m < x) p hm) in
    let ln : n / 2 < 2 ^ w = (div-lt_iff_lt-mul {k = 2} (omega arith)).1 (subst (λ (x : ℕ). n < x) p hn) in
    let r : m / 2 ≡ n / 2 = same_digits w (m / 2) (n / 2) lm ln (λ j g. step m j ∙ h (suc j) (omega arith) ∙ sym (step n j)) in
    let z : m % 2 ≡ n % 2 = ap (λ (x : ℕ). x % 2) (sym (div-one m)) ∙ h 0 (omega arith) ∙ ap (λ (x : ℕ). x % 2) (div-one n) in
    omega arith
  where
    step : (x j : ℕ) → digit (x / 2) j ≡ digit x (suc j)
    step x j = ap (λ (y : ℕ). y % 2) (shr-shr x 1 j ∙ ap (λ (y : ℕ). x / 2 ^ y) (omega arith))

bit-digit : (m n k : ℕ) → bit_set m k ≡ bit_set n k → digit m k ≡ digit n k
unfolding bit_set
bit-digit m n k e = go (digit_ways m k) (digit_ways n k)
  where
    apart : nat_eq 0 1 ≡ (1 == 1) → ⊥
    apart f = let z : ◌≡◌ {A = ℕ} 0 1 = cc in omega arith

    go : (digit m k ≡ 0) ⊎ (digit m k ≡ 1) → (digit n k ≡ 0) ⊎ (digit n k ≡ 1) → digit m k ≡ digit n k
    go (inl x) (inl y) = cc
    go (inr x) (inr y) = cc
    go (inl x) (inr y) = absurd (apart (sym (ap (λ (z : ℕ). nat_eq z 1) x) ∙ e ∙ ap (λ (z : ℕ). nat_eq z 1) y))
    go (inr x) (inl y) = absurd (apart (sym (ap (λ (z : ℕ). nat_eq z 1) y) ∙ sym e ∙ ap (λ (z : ℕ). nat_eq z 1) x))

-- a number of w bits is known by its bits
pub same_bits : (w m n : ℕ) → m < 2 ^ w → n < 2 ^ w → ((k : ℕ) → k < w → bit_set m k ≡ bit_set n k) → m ≡ n
same_bits w m n hm hn h = same_digits w m n hm hn (λ k g. bit-digit m n k (h k g))
