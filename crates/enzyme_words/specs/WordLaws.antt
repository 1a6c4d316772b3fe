-- A word that was counted once stands once, so no stretch over it stands at another start. Assumes nothing.
use Rattle.std.specs.Prelude.{ℕ, zero, suc, ◌+◌, ◌-◌, ◌*◌, ◌%◌, ◌^◌, ◌≤◌, ◌<◌, ◌≡◌, refl, Bool, true, false, cond, ◌⊎◌, List, length, drop, get_or, set, eqb}
use Rattle.std.proofs.Math.Nat.{pow-zero, pow-succ', pow-le-pow_right}
use Rattle.std.proofs.Common.{mul_assoc, mod-lt, sym, ap, ◌∙◌, inl, inr, ⊎_elim, arith, get_or-set_same, get_or-set_other, get_or-take, get_or-drop, eqb-true}
use Rattle.lists.specs.Tests.{below?, same?}
use Rattle.lists.specs.Lists.{same}
use Rattle.lists.specs.SameLaws.{same-eq}
use Rattle.enzyme_cuts.specs.Cutting.{site, part}
use Rattle.enzyme_words.specs.Words.{digit_of, word_at, word_code, WordsCoded, Twice, WordsTallied, EndOfSingle, Far, AloneBeyond, StartsSwept}

-- ---- the number of a word

pub number_less : (s : List ℕ) (i q : ℕ) → word_at s i q < 26 ^ q
number_less s i zero = rw (pow-zero 26) (omega arith)
number_less s i (suc q) = let h = number_less s i q in rw (pow-succ' 26 q) (omega arith)

-- words have up to 13 letters: up to 12 without the first or the last
pub power_small : (q : ℕ) → q ≤ 12 → 26 ^ q ≤ 95428956661682176
power_small q h = pow-le-pow_right {n = 26} (omega arith) h

pub number_small : (s : List ℕ) (i q : ℕ) → q ≤ 12 → word_at s i q < 95428956661682176
number_small s i q h = omega (arith, number_less s i q, power_small q h)

-- without its first letter
pub number_behind : (s : List ℕ) (i q : ℕ) → word_at s i (suc q) ≡ 26 ^ q * digit_of (get_or s i 0) + word_at s (i + 1) q
number_behind s i zero = let z : i + 0 ≡ i = omega arith in rw (pow-zero 26, z) (omega arith)
number_behind s i (suc q) =
    let e = number_behind s i q in
    let p : 26 ^ suc q * digit_of (get_or s i 0) ≡ 26 * (26 ^ q * digit_of (get_or s i 0)) = rw (pow-succ' 26 q) (mul_assoc 26 (26 ^ q) (digit_of (get_or s i 0))) in
    let k : i + suc q ≡ i + 1 + q = omega arith in
    rw (k, e, p) (omega arith)

-- the word at i from the letters before its last, at e, and back to those behind its first
module _ (s : List ℕ) (i q : ℕ) (some : 1 ≤ q) where
  pub word-number-on : (e x y : ℕ) → e + 1 ≡ i + q → x ≡ word_at s i (q - 1) → y ≡ digit_of (get_or s e 0) → 26 * x + y ≡ word_at s i q
  word-number-on e x y k f g =
      let h : q ≡ suc (q - 1) = omega arith in
      let l : e ≡ i + (q - 1) = omega arith in
      rw (h, f, g, l)

  pub number_off : (w t y : ℕ) → w ≡ word_at s i q → t ≡ 26 ^ (q - 1) → y ≡ digit_of (get_or s i 0) → (t * y ≤ w) × (w - t * y ≡ word_at s (i + 1) (q - 1))
  number_off w t y f g k =
      let h : q ≡ suc (q - 1) = omega arith in
      let e : w ≡ t * y + word_at s (i + 1) (q - 1) = rw (g, k) (f ∙ ap (word_at s i) h ∙ number_behind s i (q - 1)) in
      (omega arith, omega arith)

pub code-small : (s : List ℕ) (i q m : ℕ) → 0 < m → word_code s i q m < m
unfolding word_code
code-small s i q m h = mod-lt (word_at s i q) h

pub code-number : (s : List ℕ) (i q m x r : ℕ) → x ≡ word_at s i q → r ≡ x % m → r ≡ word_code s i q m
unfolding word_code
code-number s i q m x r e f = cc

-- equal words have equal numbers
number_same : (s : List ℕ) (i j q : ℕ) → ((k : ℕ) → k < q → get_or s (i + k) 0 ≡ get_or s (j + k) 0) → word_at s i q ≡ word_at s j q
number_same s i j zero h = refl
number_same s i j (suc q) h = rw (h q (omega arith), number_same s i j q (λ k l. h k (omega arith)))

pub code_same : (s : List ℕ) (i j q m : ℕ) → ((k : ℕ) → k < q → get_or s (i + k) 0 ≡ get_or s (j + k) 0) → word_code s i q m ≡ word_code s j q m
unfolding word_code
code_same s i j q m h = ap (λ (x : ℕ). x % m) (number_same s i j q h)

-- ---- counting

pub words_tallied_none : (s : List ℕ) (q m : ℕ) (far count : List ℕ) → WordsTallied s q m 0 far count
words_tallied_none s q m far count = record { codes = λ j h l. absurd (omega arith); some = λ j h. absurd (omega arith); twice = λ j k h l e. absurd (omega arith) }

-- one more word
module _ (s : List ℕ) (q m n : ℕ) (far count : List ℕ) (t : WordsTallied s q m n far count) (c v : ℕ) (e : c ≡ word_code s n q m)
    (f : v ≡ cond (eqb (get_or count c 0) 0) 1 2) (wide : n < length far) (room : c < length count) where
  value : (0 < v) × (0 < get_or count c 0 → v ≡ 2)
  value = go (eqb (get_or count c 0) 0) refl f
    where
      go : (b : Bool) → eqb (get_or count c 0) 0 ≡ b → v ≡ cond b 1 2 → (0 < v) × (0 < get_or count c 0 → v ≡ 2)
      go true g h = let z : get_or count c 0 ≡ 0 = eqb-true _ _ g in (omega arith, λ l. absurd (omega arith))
      go false g h = (omega arith, λ l. h)

  here : (x : ℕ) → (x ≡ c) → get_or (set count c v) x 0 ≡ v
  here x g = rw g (get_or-set_same count c v 0 room)

  there : (x : ℕ) → (x ≡ c → ⊥) → get_or (set count c v) x 0 ≡ get_or count x 0
  there x g = get_or-set_other count c x v 0 g

  -- a number that was counted stays so
  stays : (x : ℕ) → 0 < get_or count x 0 → 0 < get_or (set count c v) x 0
  stays x h = ⊎_elim (λ (g : x ≡ c). rw (here x g) value.0) (λ (g : x ≡ c → ⊥). rw (there x g) h) (same? x c)

  -- one that was counted and is the word's, or was counted twice, is 2
  two_here : (x : ℕ) → x ≡ c → 0 < get_or count x 0 → get_or (set count c v) x 0 ≡ 2
  two_here x g h = here x g ∙ value.1 (rw g at h)

  two-stays : (x : ℕ) → get_or count x 0 ≡ 2 → get_or (set count c v) x 0 ≡ 2
  two-stays x h = ⊎_elim (λ (g : x ≡ c). two_here x g (omega arith)) (λ (g : x ≡ c → ⊥). there x g ∙ h) (same? x c)

  pub words_tallied_one : WordsTallied s q m (n + 1) (set far n c) (set count c v)
  words_tallied_one = record {
    codes = λ j h l. ⊎_elim (λ (g : j ≡ n). rw g (get_or-set_same far n c 0 wide ∙ e)) (λ (g : j ≡ n → ⊥). get_or-set_other far n j c 0 g ∙ t.codes j (before j h g) l) (same? j n);
    some = λ j h. ⊎_elim (λ (g : j ≡ n). rw (here (word_code s j q m) (rw g (sym e))) value.0) (λ (g : j ≡ n → ⊥). stays (word_code s j q m) (t.some j (before j h g))) (same? j n);
    twice = λ j k h l o. ⊎_elim (λ (g : k ≡ n). two_here (word_code s j q m) (o ∙ rw g (sym e)) (t.some j (omega arith))) (λ (g : k ≡ n → ⊥). two-stays (word_code s j q m) (t.twice j k h (before k l g) o)) (same? k n);
  }
    where
      before : (j : ℕ) → j < n + 1 → (j ≡ n → ⊥) → j < n
      before j h g = ⊎_elim (λ (l : j < n). l) (λ (l : n ≤ j). absurd (g (omega arith))) (below? j n)

module _ (s : List ℕ) (q m n : ℕ) (far count : List ℕ) (t : WordsTallied s q m n far count) (all : length s < n + q) where
  pub words_tallied_coded : WordsCoded s q m (length s) far
  words_tallied_coded j h l = t.codes j (omega arith) l

  pub words_tallied_twice : Twice s q m count
  words_tallied_twice j k h l e = t.twice j k h (omega arith) e

-- ---- a word that stands once

-- equal stretches are equal letter by letter
letters-same : (s : List ℕ) (a b len k : ℕ) → part s (site a (a + len)) ≡ part s (site b (b + len)) → k < len → get_or s (a + k) 0 ≡ get_or s (b + k) 0
letters-same s a b len k e h =
    let x = ap (λ (l : List ℕ). get_or l k 0) e in
    let u : get_or (part s (site a (a + len))) k 0 ≡ get_or s (a + k) 0 = get_or-take (a + len - a) (drop a s) k 0 (omega arith) ∙ get_or-drop a s k 0 in
    let w : get_or (part s (site b (b + len))) k 0 ≡ get_or s (b + k) 0 = get_or-take (b + len - b) (drop b s) k 0 (omega arith) ∙ get_or-drop b s k 0 in
    sym u ∙ x ∙ w

module _ (s : List ℕ) (q m : ℕ) (some : 1 ≤ q) (count : List ℕ) (two : Twice s q m count) where
  -- two places with the same number
  never : (j k : ℕ) → j + q ≤ length s → k + q ≤ length s → (j ≡ k → ⊥) → word_code s j q m ≡ word_code s k q m → get_or count (word_code s j q m) 0 ≡ 1 → ⊥
  never j k h l ne e one = ⊎_elim
      (λ (g : j < k). let x = two j k g l e in omega arith)
      (λ (g : k ≤ j). let x = two k j (apart g (below? k j)) h (sym e) in let y : get_or count (word_code s j q m) 0 ≡ 2 = rw e x in omega arith)
      (below? j k)
    where
      apart : k ≤ j → (k < j) ⊎ (j ≤ k) → k < j
      apart g (inl m) = m
      apart g (inr m) = absurd (ne (omega arith))

  pub alone-once : (i : ℕ) → i + q ≤ length s → get_or count (word_code s i q m) 0 ≡ 1 → AloneBeyond s i (i + q)
  alone-once i h one a b len before ends inside other ne = go (same (part s (site a (a + len))) (part s (site b (b + len)))) refl
    where
      d : ℕ
      d = i - a

      go : (t : Bool) → same (part s (site a (a + len))) (part s (site b (b + len))) ≡ t → t ≡ false
      go false e = refl
      go true e =
          let p = same-eq (part s (site a (a + len))) (part s (site b (b + len))) e in
          let word : (k : ℕ) → k < q → get_or s (i + k) 0 ≡ get_or s (b + (i - a) + k) 0 = λ k l.
          let x : a + (i - a + k) ≡ i + k = omega arith in
          let y : b + (i - a + k) ≡ b + (i - a) + k = omega arith in
          rw (x, y) at (letters-same s a b len (i - a + k) p (omega arith)) in
          absurd (never i (b + (i - a)) h (omega arith) (λ g. ne (omega arith)) (code_same s i (b + (i - a)) q m word) one)

-- ---- from the last start down

pub swept_start : (s : List ℕ) (q m : ℕ) (far : List ℕ) → WordsCoded s q m (length s) far → StartsSwept s q m (length s) far (length s + 1)
swept_start s q m far codes = record {
  codes = codes;
  above = omega arith;
  low = omega arith;
  reach = λ a b len before ends inside other ne. absurd (omega arith);
  done = λ a b len h inside other ne long. absurd (omega arith);
}

module _ (s : List ℕ) (q m : ℕ) (some : 1 ≤ q) (count : List ℕ) (two : Twice s q m count) (i j : ℕ) (far : List ℕ) (r : ℕ) (w : StartsSwept s q m i far r) (e : i ≡ j + 1)
    (wide : j < length far) (x : ℕ) (p : EndOfSingle j q (length s) (get_or far j 0) count r x) where
  pub on_reach : (j < x) × (x ≤ length s + 1) × AloneBeyond s j x
  on_reach = ⊎_elim
      (λ (g : x ≡ r). (omega (arith, w.above), omega (arith, w.low), rw g (λ a b len before. w.reach a b len (omega arith))))
      (λ (g : (x ≡ j + q) × (j + q ≤ length s) × (get_or count (get_or far j 0) 0 ≡ 1)).
      (omega (arith, g.0), omega (arith, g.0, g.1), rw g.0 (alone-once s q m some count two j g.1 (rw (w.codes j (omega arith) g.1) at g.2))))
      p

  pub swept_on : StartsSwept s q m j (set far j (x - j - 1)) x
  swept_on = record {
    codes = λ k h l. get_or-set_other far j k (x - j - 1) 0 (λ g. omega arith) ∙ w.codes k (omega arith) l;
    above = on_reach.0;
    low = on_reach.1;
    reach = on_reach.2;
    done = λ a b len h inside other ne long. ⊎_elim
        (λ (g : a ≡ j). on_reach.2 a b len (omega arith) (reaches a len g long) inside other ne)
        (λ (g : a ≡ j → ⊥). w.done a b len (behind a h g) inside other ne (rw (get_or-set_other far j a (x - j - 1) 0 g) at long))
        (same? a j);
  }
    where
      reaches : (a len : ℕ) → a ≡ j → get_or (set far j (x - j - 1)) a 0 < len → x ≤ a + len
      reaches a len g long = let y : get_or (set far j (x - j - 1)) a 0 ≡ x - j - 1 = rw g (get_or-set_same far j (x - j - 1) 0 wide) in omega arith

      behind : (a : ℕ) → j ≤ a → (a ≡ j → ⊥) → i ≤ a
      behind a h g = ⊎_elim (λ (l : a < i). absurd (g (omega arith))) (λ (l : i ≤ a). l) (below? a i)

pub swept_end : (s : List ℕ) (q m i : ℕ) (far : List ℕ) (r : ℕ) → i ≤ 0 → StartsSwept s q m i far r → Far s far
swept_end s q m i far r h w a b len inside other ne long = w.done a b len (omega arith) inside other ne long
