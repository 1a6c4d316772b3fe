-- The least number that stands right after an equal in a sorted list: of the sorted numbers below n it is the first that repeats.
-- Assumes nothing.
use Rattle.std.specs.Prelude.{◌≡◌, refl, Bool, true, false, cond, ◌&&◌, ◌⊎◌, List, [], ◌∷◌, ◌++◌, ℕ, zero, suc, ◌+◌, ◌/◌, ◌≤◌, ◌<◌, min, leb, length, get_or, take, drop, replicate, Some, None, Ok, Err}
use Rattle.std.proofs.Common.{sym, ap, ◌∙◌, inl, inr, ⊎_elim, add-one, arith, leb-true, leb-false, le-leb, lt-ltb, le-ltb, ltb-true, length-take-le}
use Rattle.std.proofs.Math.Nat.{min-le_left, min-le_right}
use Rattle.std.proofs.lemmas.Bool.{lt-leb}
use Rattle.std.proofs.Math.Seq.{slice, slice-cons}
use Rattle.lists.specs.Tests.{below?, both, clash}
use Rattle.lists.specs.Lists.{same, up_from}
use Rattle.lists.specs.SameLaws.{same_refl, same-eq}
use Rattle.lists.specs.RowLaws.{in_up, up_in}
use Rattle.records.specs.Search.{seek}
use Rattle.records.specs.SearchLaws.{seek-to, seek-passes, seek_before}
use Rattle.records.specs.Outcome.{outcome, only}
use Rattle.sorting_texts.specs.declared.text.By.TheVariants.{Name}
use Rattle.sorting_spec.specs.Sort.{sorted}
use Rattle.sorting_spec.specs.SortLaws.{Orders}
use Rattle.sorting_spec.specs.Lex.{lex_le}
use Rattle.sorting_spec.specs.LexLaws.{lex_antisym, lex_refl, by_list}
use Rattle.sorting_spec.specs.Joined.{name_of}
use Rattle.sorting_texts.specs.Text.{le_by, unfit}
use Rattle.sorting_spec.specs.Repeats.{repeats, first_repeat}
use Rattle.sorting_repeats.specs.Repeating.{Repeated, roomy, repeat_outcome}
use Rattle.sorting_spec.specs.PartLaws.{drop-same, at_drop}
use Rattle.sorting_spec.specs.RepeatLaws.{Second, Later, sound, complete}
use Rattle.sorting_merge.specs.RangeLaws.{SortedRange}

module _ (le : ℕ → ℕ → Bool) where
  -- the least so far, after x behind p
  abbrev pub lesser : ℕ → ℕ → ℕ → ℕ
  lesser b p x = cond (le x p) (min b x) b

  abbrev pub least_from : ℕ → ℕ → List ℕ → ℕ
  least_from b p [] = b
  least_from b p (x ∷ xs) = least_from (lesser b p x) x xs

  -- the least that stands right after an equal, or b if that is less
  abbrev pub least : ℕ → List ℕ → ℕ
  least b [] = b
  least b (x ∷ xs) = least_from b x xs

  lesser-le : (b p x : ℕ) → lesser b p x ≤ b
  lesser-le b p x = go (le x p)
    where
      go : (t : Bool) → cond t (min b x) b ≤ b
      go true = min-le_left b x
      go false = omega arith

  lesser_hit : (b p x : ℕ) → le x p ≡ true → lesser b p x ≤ x
  lesser_hit b p x e = rw e (min-le_right b x)

  from_le : (b p : ℕ) (xs : List ℕ) → least_from b p xs ≤ b
  from_le b p [] = omega arith
  from_le b p (x ∷ xs) = omega (arith, from_le (lesser b p x) x xs, lesser-le b p x)

  from_low : (b p i : ℕ) (xs : List ℕ) → Second le i (p ∷ xs) → least_from b p xs ≤ i
  from_low b p i [] (inl h) = absurd h
  from_low b p i [] (inr h) = absurd h
  from_low b p i (x ∷ xs) (inl h) = omega (arith, from_le (lesser b p x) x xs, lesser_hit b p x h.1, h.0)
  from_low b p i (x ∷ xs) (inr h) = from_low (lesser b p x) x i xs h

  -- it is below each
  pub least_low : (b i : ℕ) (s : List ℕ) → Second le i s → least b s ≤ i
  least_low b i [] h = absurd h
  least_low b i (x ∷ xs) h = from_low b x i xs h

  from_is : (b p : ℕ) (xs : List ℕ) → (least_from b p xs ≡ b) ⊎ Second le (least_from b p xs) (p ∷ xs)
  from_is b p [] = inl refl
  from_is b p (x ∷ xs) = ⊎_elim (λ (h : least_from (lesser b p x) x xs ≡ lesser b p x). go (le x p) refl h) (λ h. inr (inr h)) (from_is (lesser b p x) x xs)
    where
      least_of : (t : Bool) → (cond t (min b x) b ≡ b) ⊎ ((cond t (min b x) b ≡ x) × (t ≡ true))
      least_of true = ⊎_elim (λ e. inl e) (λ e. inr (e, refl)) (one_of b x)
        where
          one_of : (m n : ℕ) → (min m n ≡ m) ⊎ (min m n ≡ n)
          one_of zero n = inl (omega arith)
          one_of (suc m) zero = inr (omega arith)
          one_of (suc m) (suc n) = ⊎_elim (λ (e : min m n ≡ m). inl (omega arith)) (λ (e : min m n ≡ n). inr (omega arith)) (one_of m n)
      least_of false = inl refl

      go : (t : Bool) → le x p ≡ t → least_from (lesser b p x) x xs ≡ lesser b p x
          → (least_from (lesser b p x) x xs ≡ b) ⊎ Second le (least_from (lesser b p x) x xs) (p ∷ x ∷ xs)
      go t e h = ⊎_elim (λ (k : lesser b p x ≡ b). inl (h ∙ k)) (λ (k : (lesser b p x ≡ x) × (le x p ≡ true)). inr (inl (h ∙ k.0, k.1))) (least_of (le x p))

  -- and is one, or there is none
  pub least_is : (b : ℕ) (s : List ℕ) → (least b s ≡ b) ⊎ Second le (least b s) s
  least_is b [] = inl refl
  least_is b (x ∷ xs) = from_is b x xs

  -- a turn of the code
  pub least-turn : (w : List ℕ) (i hi b p : ℕ) → i < hi → hi ≤ length w → least_from b p (slice i hi w) ≡ least_from (lesser b p (get_or w i 0)) (get_or w i 0) (slice (i + 1) hi w)
  least-turn w i hi b p h k = rw (add-one i, slice-cons i hi w 0 h k)

  pub least_begin : (w : List ℕ) (lo hi b : ℕ) → lo < hi → hi ≤ length w → least b (slice lo hi w) ≡ least_from b (get_or w lo 0) (slice (lo + 1) hi w)
  least_begin w lo hi b h k = rw (add-one lo, slice-cons lo hi w 0 h k)

-- THE LAW: of the sorted numbers below n, `least n` is the first that has an equal before it among them, or n
module _ (le : ℕ → ℕ → Bool) (o : Orders le) where
  pub first_low : (n i : ℕ) → Later le i (up_from 0 n) → least le n (sorted le (up_from 0 n)) ≤ i
  first_low n i h = least_low le n i (sorted le (up_from 0 n)) (complete le o i (up_from 0 n) h)

  pub first_is : (n : ℕ) → (least le n (sorted le (up_from 0 n)) ≡ n) ⊎ Later le (least le n (sorted le (up_from 0 n))) (up_from 0 n)
  first_is n = ⊎_elim (λ e. inl e) (λ s. inr (sound le o (least le n (sorted le (up_from 0 n))) (up_from 0 n) s)) (least_is le n (sorted le (up_from 0 n)))

-- i has the text of an earlier one
abbrev pub Repeat : (ℕ → List ℕ) → ℕ → Type 0
Repeat text i = (j : ℕ) × (j < i) × (text j ≡ text i)

-- r is the first of the n that does, or n where none does
pub record FirstRepeat (text : ℕ → List ℕ) (n r : ℕ) : Type 0 where
  pub low : (i : ℕ) → i < n → Repeat text i → r ≤ i
  pub is : (r ≡ n) ⊎ ((r < n) × Repeat text r)

later_up : (le : ℕ → ℕ → Bool) (i j a k : ℕ) → a ≤ j → j < i → i < a + k → le j i ≡ true → le i j ≡ true → Later le i (up_from a k)
later_up le i j a zero h m n p q = let f : ⊥ = omega arith in absurd f
later_up le i j a (suc k) h m n p q = go (leb (suc a) j) refl (λ z. later_up le i j (suc a) k z m (omega arith) p q)
  where
    go : (t : Bool) → leb (suc a) j ≡ t → (suc a ≤ j → Later le i (up_from (suc a) k)) → Later le i (up_from a (suc k))
    go true e r = inr (r (leb-true (suc a) j e))
    go false e r =
        let s : j ≡ a = omega (arith, leb-false (suc a) j e) in
        inl (rw s at p, rw s at q, in_up i (suc a) k (omega arith) (omega arith))

up_later : (le : ℕ → ℕ → Bool) (i a k : ℕ) → Later le i (up_from a k) → (j : ℕ) × (j < i) × (i < a + k) × (le j i ≡ true) × (le i j ≡ true)
up_later le i a zero h = absurd h
up_later le i a (suc k) (inl h) = let r = up_in i (suc a) k h.2 in (a, omega arith, omega arith, h.0, h.1)
up_later le i a (suc k) (inr h) = let r = up_later le i (suc a) k h in (r.0, r.1, omega arith, r.3, r.4)

-- THE LAW: what one pass over the sorted numbers finds is the first repeat
pub first_found : (text : ℕ → List ℕ) (n : ℕ) → FirstRepeat text n (least (λ (a b : ℕ). lex_le (text a) (text b)) n (sorted (λ (a b : ℕ). lex_le (text a) (text b)) (up_from 0 n)))
first_found text n = record {
  low = λ i h r. first_low le o n i (later_up le i r.0 0 n (omega arith) r.1 (omega arith) (same r.2) (same (sym r.2)));
  is = ⊎_elim (λ e. inl e) (λ h. let r = up_later le (least le n (sorted le (up_from 0 n))) 0 n h in inr (omega (arith, r.2), (r.0, r.1, lex_antisym (text r.0) (text (least le n (sorted le (up_from 0 n)))) r.3 r.4))) (first_is le o n);
}
  where
    le : ℕ → ℕ → Bool
    le = λ (a b : ℕ). lex_le (text a) (text b)

    o : Orders (λ (a b : ℕ). lex_le (text a) (text b))
    o = by_list text

    same : {a b : ℕ} → text a ≡ text b → lex_le (text a) (text b) ≡ true
    same {a} {b} e = rw e (lex_refl (text b))

-- there is one such place: the first that repeats
module _ (text : ℕ → List ℕ) where
  repeat_true : (i : ℕ) → Repeat text i → repeats text i ≡ true
  repeat_true i (j, h, e) = go (below? (seek (λ k. same (text k) (text i)) 0 i) i)
    where
      go : (seek (λ k. same (text k) (text i)) 0 i < i) ⊎ (i ≤ seek (λ k. same (text k) (text i)) 0 i) → repeats text i ≡ true
      go (inl k) = lt-ltb (seek (λ k. same (text k) (text i)) 0 i) i k
      go (inr k) = clash (rw e (same_refl (text i))) (seek_before (λ k. same (text k) (text i)) 0 i j (omega arith) (omega arith))

  true_repeat : (i : ℕ) → repeats text i ≡ true → Repeat text i
  true_repeat i e =
      let s : ℕ = seek (λ k. same (text k) (text i)) 0 i in
      let h : s < i = ltb-true s i e in
      (s, h, same-eq (text s) (text i) (seek-passes (λ k. same (text k) (text i)) 0 i (omega arith)))

  pub first_only : (n r : ℕ) → FirstRepeat text n r → r ≡ first_repeat text n
  first_only n r f = go (below? r (first_repeat text n)) (below? (first_repeat text n) r)
    where
      most : first_repeat text n ≤ n
      most = omega (arith, seek-to (repeats text) 0 n)

      go : (r < first_repeat text n) ⊎ (first_repeat text n ≤ r) → (first_repeat text n < r) ⊎ (r ≤ first_repeat text n) → r ≡ first_repeat text n
      go (inl h) k =
          ⊎_elim (λ (e : r ≡ n). absurd (omega (arith, most)))
          (λ (e : (r < n) × Repeat text r). clash (repeat_true r e.1) (seek_before (repeats text) 0 n r (omega arith) h))
          f.is
      go (inr h) (inl k) =
          let m : r ≤ n = ⊎_elim (λ (e : r ≡ n). omega arith) (λ (e : (r < n) × Repeat text r). omega arith) f.is in
          absurd (omega (arith, f.low (first_repeat text n) (omega arith) (true_repeat (first_repeat text n) (seek-passes (repeats text) 0 n (omega arith)))))
      go (inr h) (inr k) = omega arith

-- ---- for the code

-- counted up, sorted and passed over, n names give the first that repeats
pub repeated : (names w₁ w₂ : List ℕ) (n r : ℕ) → take n w₁ ≡ up_from 0 n → SortedRange (le_by Name names) w₁ w₂ 0 n n (n + n)
    → r ≡ least (le_by Name names (drop (n + n) w₂)) n (slice 0 n w₂) → r ≡ first_repeat (name_of names) n
repeated names w₁ w₂ n r c s f =
    let le : ℕ → ℕ → Bool = λ (a b : ℕ). lex_le (name_of names a) (name_of names b) in
    let z : r ≡ least le n (sorted le (up_from 0 n)) = f ∙ ap (least le n) (s.sorts ∙ ap (sorted le) c) in
    first_only (name_of names) n r (rw z (first_found (name_of names) n))

pub repeated_rest : (names w₀ w₁ w₂ : List ℕ) (n : ℕ) → length w₁ ≡ length w₀ → length w₂ ≡ length w₁ → drop n w₁ ≡ drop n w₀ → SortedRange (le_by Name names) w₁ w₂ 0 n n (n + n)
    → drop (n + n) w₂ ≡ drop (n + n) w₀
repeated_rest names w₀ w₁ w₂ n l₁ l₂ d s =
    drop-same (n + n) w₂ w₁ l₂ (λ i m. s.rest i (inr (omega arith))) ∙ drop-same (n + n) w₁ w₀ l₁ (λ i m. at_drop n w₁ w₀ d i (omega arith))

-- a front that was lent and cleared
pub front_cleared : (n : ℕ) (w z : List ℕ) → n ≤ length w → z ≡ replicate (length (take n w)) 0 → z ++ drop n w ≡ replicate n 0 ++ drop n w
front_cleared n w z h e = ap (λ (x : List ℕ). x ++ drop n w) (e ∙ ap (λ (k : ℕ). replicate k 0) (length-take-le n w h))

half : (n m : ℕ) → leb n (m / 2) ≡ leb (n + n) m
half n m = ⊎_elim (λ (h : m < n + n). lt-leb n (m / 2) (omega arith) ∙ sym (lt-leb (n + n) m h)) (λ (h : n + n ≤ m). le-leb n (m / 2) (omega arith) ∙ sym (le-leb (n + n) m h)) (below? m (n + n))

pub roomy_is : (n : ℕ) (w : List ℕ) → roomy n w ≡ (leb n 4294967295 && leb n (length w / 2))
roomy_is n w = ap (λ (t : Bool). leb n 4294967295 && t) (sym (half n (length w)))

pub roomy-fits : (n : ℕ) (w : List ℕ) → (leb n 4294967295 && leb n (length w / 2)) ≡ true → (n ≤ 4294967295) × (n + n ≤ length w)
roomy-fits n w e =
    let x = both (leb n 4294967295) (leb n (length w / 2)) e in
    (leb-true n 4294967295 x.0, omega (arith, leb-true n (length w / 2) x.1))

module _ (names w : List ℕ) where
  pub repeated_unfit : roomy (length names / 64) w ≡ false → outcome (Err unfit) (w ∷ []) ≡ repeat_outcome names w
  repeated_unfit e = rw e

  module _ (x : List ℕ) (r : ℕ) (fits : roomy (length names / 64) w ≡ true) (is : r ≡ first_repeat (name_of names) (length names / 64))
      (clear : x ≡ replicate (length names / 64 + length names / 64) 0 ++ drop (length names / 64 + length names / 64) w) where
    pub repeated_at : r < length names / 64 → outcome (Ok (Some r)) (x ∷ []) ≡ repeat_outcome names w
    repeated_at h = rw (fits, sym is, lt-ltb r (length names / 64) h, clear)

    pub repeated_never : length names / 64 ≤ r → outcome (Ok None) (x ∷ []) ≡ repeat_outcome names w
    repeated_never h = rw (fits, sym is, le-ltb r (length names / 64) h, clear)

-- no second answer and no second contents meet the contract of `first_repeated`
pub repeated_only : (names w : List ℕ) (r q : Repeated) (k j : List ℕ)
    → outcome r (k ∷ []) ≡ repeat_outcome names w → outcome q (j ∷ []) ≡ repeat_outcome names w → (r ≡ q) × (k ∷ [] ≡ j ∷ [])
repeated_only names w r q k j = only r q (k ∷ []) (j ∷ []) (repeat_outcome names w)
