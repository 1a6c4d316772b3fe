-- Laws of the numbers of runs. Assumes nothing.
use Rattle.std.specs.Prelude.{◌≡◌, refl, Bool, true, false, ◌&&◌, List, [], ◌∷◌, ◌++◌, ℕ, suc, ◌+◌, ◌-◌, ◌≤◌, ◌<◌, leb, length, get_or, take, drop, set, Ok, Err}
use Rattle.std.proofs.Common.{sym, ap, ◌∙◌, append-nil, zero-add, add-one, arith, leb-true, take-append-drop, length-append, length-set, get_or-set_other, drop-set-lt, take-take, take_at, drop_at, length-take-le}
use Rattle.std.proofs.Math.Seq.{slice, slice-cons, slice_empty, append_snoc, length-slice}
use Rattle.std.proofs.lemmas.List.{take-set-le, take-append-le}
use Rattle.sorting_runs.specs.Numbering.{Numbered, numberable, numbered, numbers_outcome}
use Rattle.lists.specs.Tests.{both}
use Rattle.sorting_spec.specs.Runs.{runs_of, next, numbers_from, run_numbers}
use Rattle.sorting_spec.specs.RunLaws.{count-on, count_from, next_le, length-numbers}
use Rattle.records.specs.Outcome.{outcome, only}
use Rattle.sorting_texts.specs.declared.text.By.{By}
use Rattle.sorting_texts.specs.Text.{le_by, unfit}
use Rattle.sorting_slices.specs.Sorting.{fitting}
use Rattle.sorting_slices.specs.SortingLaws.{fitting-order}
use Rattle.sorting_spec.specs.PartLaws.{slice_set, drop-same, at_drop, at_take}

module _ (le : ℕ → ℕ → Bool) where
  -- a turn: the element at i of w₀ is numbered at k of w
  module _ (w₀ w : List ℕ) (to i hi k g p : ℕ) (o₁ : i < hi) (o₂ : hi ≤ length w₀) (o₃ : to ≤ k) (o₄ : k < length w) where
    number-turn : slice to k w ++ numbers_from le g p (slice i hi w₀)
        ≡ slice to (k + 1) (set w k (next le g p (get_or w₀ i 0))) ++ numbers_from le (next le g p (get_or w₀ i 0)) (get_or w₀ i 0) (slice (i + 1) hi w₀)
    number-turn =
        let x = get_or w₀ i 0 in
        let n = next le g p x in
        rw (add-one k, add-one i, slice-cons i hi w₀ 0 o₁ o₂, slice_set to k n w o₃ o₄)
        (sym (append_snoc (slice to k w) n (numbers_from le n x (slice (suc i) hi w₀))))

    count_turn : count_from le g p (slice i hi w₀) ≡ count_from le (next le g p (get_or w₀ i 0)) (get_or w₀ i 0) (slice (i + 1) hi w₀)
    count_turn = rw (add-one i, slice-cons i hi w₀ 0 o₁ o₂) (count-on le g p (get_or w₀ i 0) (slice (suc i) hi w₀))

-- THE STATE of the numbering of the runs of w₀'s lo..hi from `to` on by the keys from e on: the next number is read at i and its run's
-- written at k; p of run g was the last
pub record NumberingTo (by : List ℕ → ℕ → ℕ → Bool) (w₀ w : List ℕ) (lo hi to e p g i k : ℕ) : Type 0 where
  pub from : lo < i
  pub within : i ≤ hi
  pub placed : k + lo ≡ to + i
  pub few : g + lo < i
  pub keys : e ≤ length w
  pub same_length : length w ≡ length w₀
  pub front : take to w ≡ take to w₀
  pub tail : drop (to + (hi - lo)) w ≡ drop (to + (hi - lo)) w₀
  pub numbers : run_numbers (by (drop e w₀)) (slice lo hi w₀) ≡ slice to k w ++ numbers_from (by (drop e w₀)) g p (slice i hi w₀)
  pub count : length (runs_of (by (drop e w₀)) (slice lo hi w₀)) ≡ count_from (by (drop e w₀)) g p (slice i hi w₀)

module _ {by : List ℕ → ℕ → ℕ → Bool} {lo hi to e : ℕ} (o₁ : hi ≤ to) (o₂ : to + (hi - lo) ≤ e) where
  -- the start: the first is of run 0
  pub numbering_start : (v : List ℕ) → lo < hi → e ≤ length v → NumberingTo by (set v to 0) (set v to 0) lo hi to e (get_or v lo 0) 0 (lo + 1) (to + 1)
  numbering_start v h k =
      let n : length (set v to 0) ≡ length v = length-set v to 0 in
      let le : ℕ → ℕ → Bool = by (drop e (set v to 0)) in
      let x : get_or (set v to 0) lo 0 ≡ get_or v lo 0 = get_or-set_other v to lo 0 0 (λ (z : lo ≡ to). let f : ⊥ = omega arith in f) in
      let c : slice lo hi (set v to 0) ≡ get_or v lo 0 ∷ slice (suc lo) hi (set v to 0) =
      slice-cons lo hi (set v to 0) 0 h (omega arith) ∙ ap (λ (y : ℕ). y ∷ slice (suc lo) hi (set v to 0)) x in
      let z : slice to (suc to) (set v to 0) ≡ 0 ∷ [] = slice_set to to 0 v (omega arith) (omega arith) ∙ ap (λ (l : List ℕ). l ++ (0 ∷ [])) (slice_empty to v) in
      record {
        from = omega arith;
        within = omega arith;
        placed = omega arith;
        few = omega arith;
        keys = omega arith;
        same_length = refl;
        front = refl;
        tail = refl;
        numbers = rw (add-one to, add-one lo, c, z);
        count = rw (add-one lo, c) (sym (zero-add (length (runs_of le (get_or v lo 0 ∷ slice (suc lo) hi (set v to 0))))));
      }

  -- a turn: r is the run that was found
  pub numbering_turn : {w₀ w : List ℕ} {p g i k r : ℕ} → NumberingTo by w₀ w lo hi to e p g i k → i < hi → r ≡ next (by (drop e w)) g p (get_or w i 0)
      → NumberingTo by w₀ (set w k r) lo hi to e (get_or w i 0) r (i + 1) (k + 1)
  numbering_turn {w₀} {w} {p} {g} {i} {k} {r} c h q =
      let n : length (set w k r) ≡ length w = length-set w k r in
      let same : drop e w ≡ drop e w₀ = drop-same e w w₀ c.same_length (λ x z. at_drop (to + (hi - lo)) w w₀ c.tail x (omega arith)) in
      let x : get_or w i 0 ≡ get_or w₀ i 0 = at_take to w w₀ c.front i (omega arith) in
      let s : r ≡ next (by (drop e w₀)) g p (get_or w₀ i 0) = q ∙ ap (λ (d : List ℕ). next (by d) g p (get_or w i 0)) same ∙ ap (next (by (drop e w₀)) g p) x in
      let le : ℕ → ℕ → Bool = by (drop e w₀) in
      record {
        from = omega arith;
        within = omega arith;
        placed = omega arith;
        few = omega (arith, next_le le g p (get_or w₀ i 0));
        keys = omega arith;
        same_length = n ∙ c.same_length;
        front = take-set-le to w k r (omega arith) ∙ c.front;
        tail = drop-set-lt (to + (hi - lo)) w k r (omega arith) ∙ c.tail;
        numbers = c.numbers ∙ rw (x, s) (number-turn le w₀ w to i hi k g p h (omega arith) (omega arith) (omega arith));
        count = c.count ∙ rw (x, s) (count_turn le w₀ w to i hi k g p h (omega arith) (omega arith) (omega arith));
      }

  -- the end, in terms of the slice before the first store
  pub numbering_end : (v : List ℕ) {w : List ℕ} {p g i k : ℕ} → NumberingTo by (set v to 0) w lo hi to e p g i k → hi ≤ i → e ≤ length v
      → (g + 1 ≡ length (runs_of (by (drop e v)) (slice lo hi v))) × (slice to (to + (hi - lo)) w ≡ run_numbers (by (drop e v)) (slice lo hi v))
      × (take to w ≡ take to v) × (drop (to + (hi - lo)) w ≡ drop (to + (hi - lo)) v)
  numbering_end v {w} {p} {g} {i} {k} c h m =
      let a : i ≡ hi = omega arith in
      let b : k ≡ to + (hi - lo) = omega arith in
      let same : drop e (set v to 0) ≡ drop e v = drop-set-lt e v to 0 (omega arith) in
      let whole : take hi (set v to 0) ≡ take hi v = take-set-le hi v to 0 o₁ in (
        sym (rw (a, same, whole, slice_empty hi v) at c.count),
        sym ((rw (a, b, same, whole, slice_empty hi v) at c.numbers) ∙ append-nil (slice to (to + (hi - lo)) w)),
        c.front ∙ take-set-le to v to 0 (omega arith),
        c.tail ∙ drop-set-lt (to + (hi - lo)) v to 0 (omega arith),
      )

-- of an empty list there is no run
pub runs_none-numbered : (le : ℕ → ℕ → Bool) (v : List ℕ) (lo hi to : ℕ) → lo ≡ hi
    → (0 ≡ length (runs_of le (slice lo hi v))) × (slice to (to + (hi - lo)) v ≡ run_numbers le (slice lo hi v))
runs_none-numbered le v lo hi to p = let q : to + (hi - hi) ≡ to = omega arith in rw (p, q, slice_empty hi v, slice_empty to v) (refl, refl)

-- a stretch and its keys stand in a slice of n
pub run_stands : (lo hi e n : ℕ) → (leb lo hi && leb hi n && leb e n) ≡ true → (lo ≤ hi) × (hi ≤ n) × (e ≤ n)
run_stands lo hi e n h =
    let a = both (leb lo hi && leb hi n) (leb e n) h in
    let b = both (leb lo hi) (leb hi n) a.0 in
    (leb-true _ _ b.0, leb-true _ _ b.1, leb-true _ _ a.1)

-- a slice is its front, a part and the rest
pub in_three : (w : List ℕ) (f t : ℕ) → f ≤ t → w ≡ take f w ++ slice f t w ++ drop t w
in_three w f t h =
    sym (take-append-drop t w)
    ∙ ap (λ (x : List ℕ). x ++ drop t w) (sym (take-append-drop f (take t w)) ∙ ap (λ (x : List ℕ). x ++ slice f t w) (take-take f t w h))

pub numberable-order : (lo hi to e n : ℕ) → numberable lo hi to e n ≡ true → (lo ≤ hi) × (hi ≤ to) × (to + (hi - lo) ≤ e) × (e ≤ n) × (hi - lo < 4294967296)
numberable-order lo hi to e n h =
    let a = both (fitting lo hi to e n) (leb (hi - lo) 4294967295) h in
    let o = fitting-order lo hi to e n a.0 in
    (o.0, o.1, o.2, o.3, omega (arith, leb-true (hi - lo) 4294967295 a.1))

module _ (by : By) (letters : List ℕ) (lo hi to e : ℕ) (w : List ℕ) where
  pub number-unfit : numberable lo hi to e (length w) ≡ false → outcome (Err unfit) (w ∷ []) ≡ numbers_outcome by letters lo hi to e w
  number-unfit q = rw q

  pub number_fits : (x : List ℕ) (r : ℕ) → numberable lo hi to e (length w) ≡ true → r ≡ length (runs_of (le_by by letters (drop e w)) (slice lo hi w))
      → slice to (to + (hi - lo)) x ≡ run_numbers (le_by by letters (drop e w)) (slice lo hi w) → take to x ≡ take to w → drop (to + (hi - lo)) x ≡ drop (to + (hi - lo)) w
      → outcome (Ok r) (x ∷ []) ≡ numbers_outcome by letters lo hi to e w
  number_fits x r q c m f d =
      let y : x ≡ numbered by letters lo hi to e w =
      in_three x to (to + (hi - lo)) (omega arith)
      ∙ ap (λ (v : List ℕ). v ++ slice to (to + (hi - lo)) x ++ drop (to + (hi - lo)) x) f
      ∙ ap (λ (v : List ℕ). take to w ++ v ++ drop (to + (hi - lo)) x) m
      ∙ ap (λ (v : List ℕ). take to w ++ run_numbers (le_by by letters (drop e w)) (slice lo hi w) ++ v) d in
      rw (q, c, y)

-- ---- what a caller relies on

module _ (by : By) (letters : List ℕ) (lo hi to e : ℕ) (w : List ℕ) (o₁ : lo ≤ hi) (o₂ : hi ≤ to) (o₃ : to + (hi - lo) ≤ e) (o₄ : e ≤ length w) where
  abbrev numbers : List ℕ
  numbers = run_numbers (le_by by letters (drop e w)) (slice lo hi w)

  length_front : length (take to w ++ numbers) ≡ to + (hi - lo)
  length_front =
      length-append (take to w) numbers
      ∙ omega (arith, length-take-le to w (omega arith), length-numbers (le_by by letters (drop e w)) (slice lo hi w), length-slice lo hi w (omega arith))

  pub numbered-take : take to (numbered by letters lo hi to e w) ≡ take to w
  numbered-take =
      take-append-le to (take to w ++ numbers) (drop (to + (hi - lo)) w) (omega (arith, length_front))
      ∙ take_at (take to w) numbers to (length-take-le to w (omega arith))

  pub numbered-slice : slice to (to + (hi - lo)) (numbered by letters lo hi to e w) ≡ run_numbers (le_by by letters (drop e w)) (slice lo hi w)
  numbered-slice =
      ap (drop to) (take_at (take to w ++ numbers) (drop (to + (hi - lo)) w) (to + (hi - lo)) length_front)
      ∙ drop_at (take to w) numbers to (length-take-le to w (omega arith))

  pub numbered-drop : drop (to + (hi - lo)) (numbered by letters lo hi to e w) ≡ drop (to + (hi - lo)) w
  numbered-drop = drop_at (take to w ++ numbers) (drop (to + (hi - lo)) w) (to + (hi - lo)) length_front

pub numbers_only : (by : By) (letters : List ℕ) (lo hi to e : ℕ) (w : List ℕ) (r q : Numbered) (k j : List ℕ)
    → outcome r (k ∷ []) ≡ numbers_outcome by letters lo hi to e w → outcome q (j ∷ []) ≡ numbers_outcome by letters lo hi to e w → (r ≡ q) × (k ∷ [] ≡ j ∷ [])
numbers_only by letters lo hi to e w r q k j = only r q (k ∷ []) (j ∷ []) (numbers_outcome by letters lo hi to e w)
