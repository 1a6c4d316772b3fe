-- Laws of runs. Assumes nothing.
use Rattle.std.specs.Prelude.{◌≡◌, refl, Bool, true, false, cond, List, [], ◌∷◌, ℕ, suc, ◌+◌, ◌-◌, ◌≤◌, ◌<◌, length, get_or, take, drop}
use Rattle.std.proofs.Common.{sym, ap, ◌∙◌, inl, inr, add-one, arith, length-take-le, take-take, take-add, drop-drop, drop_at}
use Rattle.std.proofs.Math.Seq.{slice, slice-cons, slice_empty, length-slice}
use Rattle.lists.specs.Lists.{In}
use Rattle.sorting_spec.specs.Runs.{equals_after, run_length, joined, runs_of, next, numbers_from, run_numbers}

module _ {A : Type 0} (le : A → A → Bool) where
  pub run-behind : (x : A) (xs : List A) → runs_of le (x ∷ xs) ≡ (x ∷ take (equals_after le x xs) xs) ∷ runs_of le (drop (equals_after le x xs) xs)
  run-behind x [] = refl
  run-behind x (y ∷ ys) = ap (joined le x) (run-behind y ys) ∙ go (le y x) (run-behind y ys)
    where
      go : (t : Bool) → runs_of le (y ∷ ys) ≡ (y ∷ take (equals_after le y ys) ys) ∷ runs_of le (drop (equals_after le y ys) ys)
          → cond t ((x ∷ y ∷ take (equals_after le y ys) ys) ∷ runs_of le (drop (equals_after le y ys) ys)) ((x ∷ []) ∷ (y ∷ take (equals_after le y ys) ys) ∷ runs_of le (drop (equals_after le y ys) ys))
          ≡ (x ∷ take (cond t (suc (equals_after le y ys)) 0) (y ∷ ys)) ∷ runs_of le (drop (cond t (suc (equals_after le y ys)) 0) (y ∷ ys))
      go true e = refl
      go false e = ap (λ (rs : List (List A)). (x ∷ []) ∷ rs) (sym e)

  -- the first run, and the runs of what is behind it
  pub runs_first : (s : List A) → 0 < length s → runs_of le s ≡ take (run_length le s) s ∷ runs_of le (drop (run_length le s) s)
  runs_first [] h = absurd (omega arith)
  runs_first (x ∷ xs) h = run-behind x xs

  pub run-some : (s : List A) → 0 < length s → 0 < run_length le s
  run-some [] h = h
  run-some (x ∷ xs) h = omega arith

  equals_most : (p : A) (xs : List A) → equals_after le p xs ≤ length xs
  equals_most p [] = omega arith
  equals_most p (x ∷ xs) = go (le x p) (equals_most x xs)
    where
      go : (t : Bool) → equals_after le x xs ≤ length xs → cond t (suc (equals_after le x xs)) 0 ≤ suc (length xs)
      go true h = omega arith
      go false h = omega arith

  pub run_most : (s : List A) → run_length le s ≤ length s
  run_most [] = omega arith
  run_most (x ∷ xs) = omega (arith, equals_most x xs)

-- two tests that agree on all pairs of elements of a list make the same runs
module _ {A : Type 0} (le₁ le₂ : A → A → Bool) where
  pub runs_alike : (xs : List A) → ((a b : A) → In a xs → In b xs → le₁ a b ≡ le₂ a b) → runs_of le₁ xs ≡ runs_of le₂ xs
  runs_alike [] g = refl
  runs_alike (x ∷ []) g = refl
  runs_alike (x ∷ y ∷ ys) g =
      ap (joined le₁ x) (runs_alike (y ∷ ys) (λ a b p q. g a b (inr p) (inr q)) ∙ run-behind le₂ y ys)
      ∙ ap (λ (t : Bool). cond t ((x ∷ y ∷ take (equals_after le₂ y ys) ys) ∷ runs_of le₂ (drop (equals_after le₂ y ys) ys)) ((x ∷ []) ∷ (y ∷ take (equals_after le₂ y ys) ys) ∷ runs_of le₂ (drop (equals_after le₂ y ys) ys))) (g y x (inr (inl refl)) (inl refl))
      ∙ sym (ap (joined le₂ x) (run-behind le₂ y ys))

  equals_alike : (p : A) (xs : List A) → ((a b : A) → In a (p ∷ xs) → In b (p ∷ xs) → le₁ a b ≡ le₂ a b) → equals_after le₁ p xs ≡ equals_after le₂ p xs
  equals_alike p [] g = refl
  equals_alike p (x ∷ xs) g =
      ap (λ (t : Bool). cond t (suc (equals_after le₁ x xs)) 0) (g x p (inr (inl refl)) (inl refl))
      ∙ ap (λ (k : ℕ). cond (le₂ x p) (suc k) 0) (equals_alike x xs (λ a b u v. g a b (inr u) (inr v)))

  pub run-alike : (xs : List A) → ((a b : A) → In a xs → In b xs → le₁ a b ≡ le₂ a b) → run_length le₁ xs ≡ run_length le₂ xs
  run-alike [] g = refl
  run-alike (x ∷ xs) g = ap suc (equals_alike x xs g)

-- the first run of a stretch of a slice, and the runs of what is behind it
pub runs_slice : (le : ℕ → ℕ → Bool) (w : List ℕ) (i hi : ℕ) → i < hi → hi ≤ length w
    → runs_of le (slice i hi w) ≡ slice i (i + run_length le (slice i hi w)) w ∷ runs_of le (slice (i + run_length le (slice i hi w)) hi w)
runs_slice le w i hi h k =
    let n : length (slice i hi w) ≡ hi - i = length-slice i hi w k in
    let m : run_length le (slice i hi w) ≤ length (slice i hi w) = run_most le (slice i hi w) in
    runs_first le (slice i hi w) (omega arith)
    ∙ ap (λ (x : List ℕ). x ∷ runs_of le (drop (run_length le (slice i hi w)) (slice i hi w))) (front (run_length le (slice i hi w)) (omega arith))
    ∙ ap (λ (x : List ℕ). slice i (i + run_length le (slice i hi w)) w ∷ runs_of le x) (drop-drop (run_length le (slice i hi w)) i (take hi w))
  where
    front : (r : ℕ) → i + r ≤ hi → take r (slice i hi w) ≡ slice i (i + r) w
    front r m =
        sym (
        ap (drop i) (sym (take-take (i + r) hi w m) ∙ take-add i r (take hi w))
        ∙ drop_at (take i (take hi w)) (take r (slice i hi w)) i (length-take-le i (take hi w) (omega (arith, length-take-le hi w k)))
        )

-- ---- for the code: p stands at i - 1

module _ (le : ℕ → ℕ → Bool) (w : List ℕ) (i hi : ℕ) (h : i < hi) (k : hi ≤ length w) where
  pub run_begin : i + run_length le (slice i hi w) ≡ i + 1 + equals_after le (get_or w i 0) (slice (i + 1) hi w)
  run_begin = rw (add-one i, slice-cons i hi w 0 h k) (omega arith)

  pub run_on : (p : ℕ) → le (get_or w i 0) p ≡ true → i + equals_after le p (slice i hi w) ≡ i + 1 + equals_after le (get_or w i 0) (slice (i + 1) hi w)
  run_on p e = rw (add-one i, slice-cons i hi w 0 h k, e) (omega arith)

  pub run_off : (p : ℕ) → le (get_or w i 0) p ≡ false → i + equals_after le p (slice i hi w) ≡ i
  run_off p e = rw (slice-cons i hi w 0 h k, e) (omega arith)

pub run_none : (le : ℕ → ℕ → Bool) (w : List ℕ) (i p : ℕ) → i + equals_after le p (slice i i w) ≡ i
run_none le w i p = rw (slice_empty i w) (omega arith)

pub run-empty : (le : ℕ → ℕ → Bool) (w : List ℕ) (i : ℕ) → i + run_length le (slice i i w) ≡ i
run-empty le w i = rw (slice_empty i w) (omega arith)

-- ---- numbers of runs

-- how many runs there are where p is of run g
abbrev pub count_from : (ℕ → ℕ → Bool) → ℕ → ℕ → List ℕ → ℕ
count_from le g p xs = g + length (runs_of le (p ∷ xs))

pub count-on : (le : ℕ → ℕ → Bool) (g p x : ℕ) (xs : List ℕ) → count_from le g p (x ∷ xs) ≡ count_from le (next le g p x) x xs
count-on le g p x xs = rw (run-behind le x xs) (go (le x p) (take (equals_after le x xs) xs) (runs_of le (drop (equals_after le x xs) xs)))
  where
    go : (t : Bool) (ys : List ℕ) (rs : List (List ℕ)) → g + length (cond t ((p ∷ x ∷ ys) ∷ rs) ((p ∷ []) ∷ (x ∷ ys) ∷ rs)) ≡ cond t g (g + 1) + suc (length rs)
    go true ys rs = omega arith
    go false ys rs = omega arith

pub next_le : (le : ℕ → ℕ → Bool) (g p x : ℕ) → next le g p x ≤ g + 1
next_le le g p x = go (le x p)
  where
    go : (t : Bool) → cond t g (g + 1) ≤ g + 1
    go true = omega arith
    go false = omega arith

length_from : (le : ℕ → ℕ → Bool) (g p : ℕ) (xs : List ℕ) → length (numbers_from le g p xs) ≡ length xs
length_from le g p [] = refl
length_from le g p (x ∷ xs) = ap suc (length_from le (next le g p x) x xs)

pub length-numbers : (le : ℕ → ℕ → Bool) (xs : List ℕ) → length (run_numbers le xs) ≡ length xs
length-numbers le [] = refl
length-numbers le (x ∷ xs) = ap suc (length_from le 0 x xs)
