-- The laws of sets of letters that callers cite, so that none opens the definitions. Assumes nothing.
use Rattle.std.specs.Prelude.{◌≡◌, ℕ, ◌+◌, ◌-◌, ◌%◌, ◌^◌, ◌<◌, ◌≤◌, Bool, true, false, cond, not, ◌&&◌, ◌||◌, ◌==◌, ◌≢◌, bit_and, bit_or, nat_eq, nat_lt, refl}
use Rattle.std.proofs.Common.{sym, ap, ◌∙◌, subst, true≢false, ⊎_elim, mod-lt, arith, pow_pos, eq-eqb, ne_eqb, eqb-true, ltb-true, lt-ltb}
use Rattle.std.proofs.Math.Bool.{and-false}
use Rattle.std.proofs.Math.Nat.{zero-div}
use Rattle.std.proofs.Math.Pow.{pow-lt}
use Rattle.std.proofs.lemmas.Nat.{or_lt}
use Rattle.std.proofs.lemmas.Bool.{eqb-false, not-false}
use Rattle.lists.specs.Tests.{below?, both, truth?}
use Rattle.records.specs.Search.{seek}
use Rattle.records.specs.SearchLaws.{seek-to, seek-passes, seek_before}
use Rattle.letters.specs.declared.letter_set.LetterSet.{LetterSet}
use Rattle.letters.specs.Letters.{is_capital, capital, is_letter, bit_set, has, inserted, empty, all, proper, subset}
use Rattle.letters.specs.CapitalLaws.{capital-within, capital-same, capital_twice, capital_letter, letter_from, letter_to, letter_capital}
use Rattle.letters.specs.BitLaws.{bit-insert, bit-shared, bit_low, same_bits}

-- ---- members

-- no byte is in the empty set
pub has-empty : (b : ℕ) → has empty b ≡ false
unfolding has bit_set
has-empty b = simp zero-div (and-false (is_letter b))

-- a member is a letter
pub has_letter : (s : LetterSet) (b : ℕ) → has s b ≡ true → is_letter b ≡ true
unfolding has
has_letter s b e = (both (is_letter b) (bit_set s.mask (capital b - 65)) e).0

-- a byte that is no letter is in no set
pub has_other : (s : LetterSet) (b : ℕ) → is_letter b ≡ false → has s b ≡ false
unfolding has
has_other s b e = rw e

-- a set has a small letter where it has its capital
pub has-capital : (s : LetterSet) (b : ℕ) → has s (capital b) ≡ has s b
unfolding has
has-capital s b = rw (letter_capital b, capital_twice b)

-- contains after insert, for all bytes
pub has-insert : (s : LetterSet) (a b : ℕ) → has (inserted s a) b ≡ ((is_letter a && capital b == capital a) || has s b)
unfolding has inserted
has-insert s a b = go (is_letter a) refl (is_letter b) refl
  where
    m : ℕ
    m = s.mask

    same : is_letter a ≡ true → is_letter b ≡ true → (capital b - 65 == capital a - 65) ≡ (capital b == capital a)
    same p q = back (capital b == capital a) refl
      where
        back : (t : Bool) → (capital b == capital a) ≡ t → (capital b - 65 == capital a - 65) ≡ t
        back true e = eq-eqb (capital b - 65) (capital a - 65) (ap (λ (x : ℕ). x - 65) (eqb-true (capital b) (capital a) e))
        back false e = ne_eqb (capital b - 65) (capital a - 65) (λ (h : capital b - 65 ≡ capital a - 65). eqb-false (capital b) (capital a) e (omega (arith, letter_from a p, letter_from b q)))

    apart : is_letter a ≡ true → is_letter b ≡ false → (capital b == capital a) ≡ false
    apart p q = ne_eqb (capital b) (capital a) (λ (h : capital b ≡ capital a). true≢false (sym p ∙ sym (letter_capital a) ∙ ap is_letter (sym h) ∙ letter_capital b ∙ q))

    go : (x : Bool) → is_letter a ≡ x → (t : Bool) → is_letter b ≡ t
        → (t && bit_set (cond x (bit_or m (2 ^ (capital a - 65))) m) (capital b - 65)) ≡ ((x && capital b == capital a) || (t && bit_set m (capital b - 65)))
    go true p true q = bit-insert m (capital a - 65) (capital b - 65) ∙ ap (λ (x : Bool). x || bit_set m (capital b - 65)) (same p q)
    go true p false q = simp (apart p q)
    go false p true q = refl
    go false p false q = refl

-- an insertion sets no bit above 25
pub insert-proper : (s : LetterSet) (a : ℕ) → proper s ≡ true → proper (inserted s a) ≡ true
unfolding proper inserted
insert-proper s a h = go (is_letter a) refl
  where
    go : (t : Bool) → is_letter a ≡ t → nat_lt (cond t (bit_or s.mask (2 ^ (capital a - 65))) s.mask) (2 ^ 26) ≡ true
    go true p = lt-ltb _ _ (or_lt 26 s.mask (2 ^ (capital a - 65)) (ltb-true s.mask (2 ^ 26) h) (pow-lt {j = 26} (omega (arith, letter_to a p))))
    go false p = h

pub empty-proper : proper empty ≡ true
unfolding proper
empty-proper = refl

pub all-proper : proper all ≡ true
unfolding proper
all-proper = refl

-- a capital's bit
bit_of : (s : LetterSet) (k : ℕ) → k < 26 → has s (65 + k) ≡ bit_set s.mask k
unfolding has
bit_of s k h =
    let c : is_capital (65 + k) ≡ true = capital-within (65 + k) (omega arith) (omega arith) in
    rw (capital_letter (65 + k) c, capital-same (65 + k) c, back k)
  where
    back : (i : ℕ) → 65 + i - 65 ≡ i
    back i = omega arith

-- and that of a letter
bit_of_letter : (s : LetterSet) (b : ℕ) → is_letter b ≡ true → has s b ≡ bit_set s.mask (capital b - 65)
unfolding has
bit_of_letter s b e = rw e

-- a set without stray bits is known by its members
pub set-by_members : (s t : LetterSet) → proper s ≡ true → proper t ≡ true → ((b : ℕ) → has s b ≡ has t b) → s ≡ t
unfolding proper
set-by_members s t hs ht h =
    let e : s.mask ≡ t.mask = same_bits 26 s.mask t.mask (ltb-true _ _ hs) (ltb-true _ _ ht) (λ k g. sym (bit_of s k g) ∙ h (65 + k) ∙ bit_of t k g) in
    λ i. record { mask = e i }

all_bits : seek (λ (k : ℕ). not (bit_set 67108863 k)) 0 26 ≡ 26
unfolding seek bit_set
all_bits = refl

-- each letter is in the set of all
pub has_all : (b : ℕ) → has all b ≡ is_letter b
has_all b = ⊎_elim (inside) (λ (e : is_letter b ≡ false). has_other all b e ∙ sym e) (truth? (is_letter b))
  where
    at : (k : ℕ) → k < 26 → has all (65 + k) ≡ true
    at k h = bit_of all k h ∙ not-false (bit_set 67108863 k) (seek_before (λ (j : ℕ). not (bit_set 67108863 j)) 0 26 k (omega arith) (omega (arith, all_bits)))

    inside : is_letter b ≡ true → has all b ≡ is_letter b
    inside e =
        let f : 65 + (capital b - 65) ≡ capital b = omega (arith, letter_from b e) in
        sym (has-capital all b) ∙ subst (λ (x : ℕ). has all x ≡ true) f (at (capital b - 65) (omega (arith, letter_to b e, letter_from b e))) ∙ sym e

-- ---- subsets

pub subset-has : (s t : LetterSet) → subset s t ≡ true → (b : ℕ) → has s b ≡ true → has t b ≡ true
unfolding subset
subset-has s t e b h =
    let p : ℕ → Bool = λ x. has s x && not (has t x) in
    let l : is_letter b ≡ true = has_letter s b h in
    let f : seek p 65 26 ≡ 91 = eqb-true (seek p 65 26) 91 e in
    let g : p (capital b) ≡ false = seek_before p 65 26 (capital b) (letter_from b l) (omega (arith, letter_to b l)) in
    go (has t b) refl (rw (has-capital s b, has-capital t b, h) at g)
  where
    go : (x : Bool) → has t b ≡ x → not (has t b) ≡ false → has t b ≡ true
    go true q r = q
    go false q r = absurd (true≢false (sym (ap not q) ∙ r))

pub subset-all : (s t : LetterSet) → ((b : ℕ) → has s b ≡ true → has t b ≡ true) → subset s t ≡ true
unfolding subset
subset-all s t h =
    let p : ℕ → Bool = λ x. has s x && not (has t x) in
    let u = seek-to p 65 26 in
    eq-eqb (seek p 65 26) 91 (⊎_elim (λ (l : seek p 65 26 < 91). absurd (none (seek p 65 26) (seek-passes p 65 26 l))) (λ (l : 91 ≤ seek p 65 26). omega arith) (below? (seek p 65 26) 91))
  where
    none : (b : ℕ) → (has s b && not (has t b)) ≢ true
    none b e =
        let x = both (has s b) (not (has t b)) e in
        true≢false (sym x.1 ∙ ap not (h b x.0))

-- ---- by what the two numbers share

module _ (s t : LetterSet) where
  shared_has : bit_and s.mask t.mask % 2 ^ 26 ≡ s.mask % 2 ^ 26 → (b : ℕ) → has s b ≡ true → has t b ≡ true
  shared_has e b h =
      let l : is_letter b ≡ true = has_letter s b h in
      let k : ℕ = capital b - 65 in
      let g : k < 26 = omega (arith, letter_from b l, letter_to b l) in
      let p : bit_set s.mask k ≡ true = sym (bit_of_letter s b l) ∙ h in
      let q : bit_set (bit_and s.mask t.mask) k ≡ true = sym (bit_low 26 (bit_and s.mask t.mask) k g) ∙ ap (λ (x : ℕ). bit_set x k) e ∙ bit_low 26 s.mask k g ∙ p in
      bit_of_letter t b l ∙ (both (bit_set s.mask k) (bit_set t.mask k) (sym (bit-shared s.mask t.mask k) ∙ q)).1

  has-shared : subset s t ≡ true → bit_and s.mask t.mask % 2 ^ 26 ≡ s.mask % 2 ^ 26
  has-shared e = same_bits 26 (bit_and s.mask t.mask % 2 ^ 26) (s.mask % 2 ^ 26) (mod-lt (bit_and s.mask t.mask) (pow_pos 26)) (mod-lt s.mask (pow_pos 26)) at
    where
      go : (k : ℕ) → k < 26 → (x : Bool) → bit_set s.mask k ≡ x → (x && bit_set t.mask k) ≡ x
      go k g true p = sym (bit_of t k g) ∙ subset-has s t e (65 + k) (bit_of s k g ∙ p)
      go k g false p = refl

      at : (k : ℕ) → k < 26 → bit_set (bit_and s.mask t.mask % 2 ^ 26) k ≡ bit_set (s.mask % 2 ^ 26) k
      at k g = bit_low 26 (bit_and s.mask t.mask) k g ∙ bit-shared s.mask t.mask k ∙ go k g (bit_set s.mask k) refl ∙ sym (bit_low 26 s.mask k g)

  pub subset_bits : nat_eq (bit_and s.mask t.mask % 2 ^ 26) (s.mask % 2 ^ 26) ≡ subset s t
  subset_bits = go (bit_and s.mask t.mask % 2 ^ 26 == s.mask % 2 ^ 26) refl (subset s t) refl
    where
      go : (x : Bool) → (bit_and s.mask t.mask % 2 ^ 26 == s.mask % 2 ^ 26) ≡ x → (y : Bool) → subset s t ≡ y → x ≡ y
      go true e true f = refl
      go false e false f = refl
      go true e false f = sym (subset-all s t (shared_has (eqb-true _ _ e))) ∙ f
      go false e true f = sym e ∙ eq-eqb _ _ (has-shared f)
