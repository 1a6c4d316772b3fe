-- Numbers by first appearance, by one pass with a table, in a lent slice. Assumes nothing.
use Rattle.std.specs.Prelude.{◌≡◌, refl, Bool, true, false, List, [], ◌∷◌, ◌++◌, ℕ, suc, ◌+◌, ◌≤◌, ◌<◌, ltb, eqb, length, get_or, drop, set}
use Rattle.std.proofs.Common.{sym, ap, ◌∙◌, inr, add-one, arith, ltb-true, ltb-false, eqb-true, length-append, length-set, drop_of_length-le, drop-cons, get_or-set_same, get_or-set_other}
use Rattle.std.proofs.lemmas.Bool.{eqb-false}
use Rattle.std.proofs.Math.Seq.{slice, slice_empty}
use Rattle.lists.specs.Lists.{occurs}
use Rattle.lists.specs.FrameLaws.{Out, Framed, framed_none, framed_then, framed_set}
use Rattle.lists.specs.FirstLaws.{first_at, first_ones, learnt, has-learnt, place-firsts, Once, at_most, once-new, first_mark, first_mark-zero, mark-more, mark_other, mark-same}
use Rattle.sorting_spec.specs.PartLaws.{at_slice, slice-same, slice_set}
use Rattle.protein_groups_numbering.specs.SliceLaws.{slice_long, out_more}

-- the f found of m stand from b on, and their table from t on
pub record Register (w : List ℕ) (b t m f : ℕ) : Type 0 where
  pub few : f ≤ m
  pub once : Once m (slice b (b + f) w)
  pub table : (k : ℕ) → k < m → get_or w (t + k) 0 ≡ first_mark k (slice b (b + f) w)

pub register_none : (w : List ℕ) (b t m : ℕ) → ((k : ℕ) → k < m → get_or w (t + k) 0 ≡ 0) → Register w b t m 0
register_none w b t m z = record {
  few = omega arith;
  once = rw empty (record { under = tt; single = λ k. omega arith });
  table = λ k h. rw empty (z k h);
}
  where
    empty : slice b (b + 0) w ≡ []
    empty = let e : b + 0 ≡ b = omega arith in rw e (slice_empty b w)

-- what is learnt of x: the found then, and all else as it was
pub record Learnt (w₀ w : List ℕ) (b t m f x r : ℕ) : Type 0 where
  pub knows : Register w b t m r
  pub found : slice b (b + r) w ≡ learnt x (slice b (b + f) w₀)
  pub rest : Framed b (t + m) w₀ w

module _ (w : List ℕ) (b t m f x : ℕ) (o₁ : b + m ≤ t) (o₂ : t + m ≤ length w) (o₃ : x < m) (p : Register w b t m f) where
  abbrev F : List ℕ
  F = slice b (b + f) w

  -- x is known
  pub learn_old : (get_or w (t + x) 0 ≡ 0 → ⊥) → Learnt w w b t m f x f
  learn_old e =
      let h : occurs x F ≡ true = mark-more x F (λ (z : first_mark x F ≡ 0). e (p.table x o₃ ∙ z)) in
      record { knows = p; found = rw h; rest = framed_none b (t + m) w }

  long : length F ≡ f
  long = slice_long b f w (omega (arith, p.few))

  abbrev w' : List ℕ
  w' = set (set w (b + f) x) (t + x) (f + 1)

  module _ (e : get_or w (t + x) 0 ≡ 0) where
    new : occurs x F ≡ false
    new = first_mark-zero x F (sym (p.table x o₃) ∙ e)

    once' : Once m (F ++ (x ∷ []))
    once' = once-new m x F p.once o₃ new

    pub learn_room : f + 1 ≤ m
    learn_room = omega (arith, at_most m (F ++ (x ∷ [])) once', length-append F (x ∷ []), long)

    at_other : (j : ℕ) → (j ≡ t + x → ⊥) → (j ≡ b + f → ⊥) → get_or w' j 0 ≡ get_or w j 0
    at_other j g h = get_or-set_other (set w (b + f) x) (t + x) j (f + 1) 0 g ∙ get_or-set_other w (b + f) j x 0 h

    more : slice b (b + (f + 1)) w' ≡ F ++ (x ∷ [])
    more =
        let q : b + (f + 1) ≡ suc (b + f) = omega arith in
        rw q
        (slice-same b (suc (b + f)) w' (set w (b + f) x)
        (omega (arith, length-set (set w (b + f) x) (t + x) (f + 1), length-set w (b + f) x, learn_room))
        (omega (arith, length-set w (b + f) x, learn_room))
        (λ j g h. get_or-set_other (set w (b + f) x) (t + x) j (f + 1) 0 (λ (z : j ≡ t + x). let y : ⊥ = omega (arith, learn_room) in y))
        ∙ slice_set b (b + f) x w (omega arith) (omega (arith, learn_room)))

    pub learn_new : Learnt w w' b t m f x (f + 1)
    learn_new = record {
      knows = record { few = learn_room; once = rw more once'; table = λ k h. rw more (go k h (eqb x k) refl) };
      found = more ∙ (let u : F ++ (x ∷ []) ≡ learnt x F = rw new in u);
      rest =
          framed_then b (t + m) w (set w (b + f) x) w'
          (framed_set b (t + m) (b + f) x w (omega arith) (omega (arith, learn_room)))
          (framed_set b (t + m) (t + x) (f + 1) (set w (b + f) x) (omega arith) (omega arith));
    }
      where
        go : (k : ℕ) → k < m → (u : Bool) → eqb x k ≡ u → get_or w' (t + k) 0 ≡ first_mark k (F ++ (x ∷ []))
        go k h true q =
            let z : x ≡ k = eqb-true x k q in
            rw (← z, mark-same x F new, long)
            (get_or-set_same (set w (b + f) x) (t + x) (f + 1) 0 (omega (arith, length-set w (b + f) x)) ∙ add-one f)
        go k h false q =
            at_other (t + k) (λ (z : t + k ≡ t + x). eqb-false x k q (omega arith)) (λ (z : t + k ≡ b + f). let y : ⊥ = omega (arith, learn_room) in y)
            ∙ p.table k h
            ∙ sym (mark_other k x F q)

-- after x is learnt, its number is in the table
pub number-learnt : (w₀ w : List ℕ) (b t m f x r : ℕ) → x < m → Learnt w₀ w b t m f x r
    → get_or w (t + x) 0 ≡ suc (first_at x (slice b (b + r) w))
number-learnt w₀ w b t m f x r h p =
    p.knows.table x h ∙ (let u : occurs x (slice b (b + r) w) ≡ true = (rw p.found (has-learnt x (slice b (b + f) w₀))) in rw u)

-- THE RESULT: the found of w₀'s n from l on stand from b on, and each is replaced by its number
pub record AllNumbered (w₀ w : List ℕ) (b t m l n r : ℕ) : Type 0 where
  pub few : r ≤ m
  pub found : slice b (b + r) w ≡ first_ones [] (slice l (l + n) w₀)
  pub each : (j : ℕ) → j < n → get_or w (l + j) 0 ≡ first_at (get_or w₀ (l + j) 0) (first_ones [] (slice l (l + n) w₀))
  pub rest : (j : ℕ) → Out j b (t + m) → Out j l (l + n) → get_or w j 0 ≡ get_or w₀ j 0

-- the first i are numbered
pub record PartNumbered (w₀ w : List ℕ) (b t m l n i f : ℕ) : Type 0 where
  pub knows : Register w b t m f
  pub coming : first_ones (slice b (b + f) w) (drop i (slice l (l + n) w₀)) ≡ first_ones [] (slice l (l + n) w₀)
  pub done : (j : ℕ) → j < i → get_or w (l + j) 0 ≡ first_at (get_or w₀ (l + j) 0) (first_ones [] (slice l (l + n) w₀))
  pub rest : (j : ℕ) → Out j b (t + m) → Out j l (l + i) → get_or w j 0 ≡ get_or w₀ j 0

pub numbering_none : (w : List ℕ) (b t m l n : ℕ) → ((k : ℕ) → k < m → get_or w (t + k) 0 ≡ 0) → PartNumbered w w b t m l n 0 0
numbering_none w b t m l n z = record {
  knows = register_none w b t m z;
  coming = let e : b + 0 ≡ b = omega arith in rw (e, slice_empty b w);
  done = λ j h. let f : ⊥ = omega arith in absurd f;
  rest = λ j x y. refl;
}

-- a turn: thing i of w is x, w₁ knows it, and where its number takes its place the first i + 1 are numbered
pub record NumberTurn (w₀ w₁ : List ℕ) (b t m l n i r x : ℕ) : Type 0 where
  pub inside : x < m
  pub number : get_or w₁ (t + x) 0 ≡ suc (first_at x (first_ones [] (slice l (l + n) w₀)))
  pub more : (k : ℕ) → k ≡ first_at x (first_ones [] (slice l (l + n) w₀)) → PartNumbered w₀ (set w₁ (l + i) k) b t m l n (i + 1) r

module _ (w₀ w w₁ : List ℕ) (b t m l n i f r : ℕ) (len : length w ≡ length w₀) (len₁ : length w₁ ≡ length w) (o₁ : b + m ≤ t) (o₂ : t + m ≤ l) (o₃ : l + n ≤ length w₀) (o₄ : i < n)
    (under : (i : ℕ) → i < n → get_or w₀ (l + i) 0 < m) (p : PartNumbered w₀ w b t m l n i f) (q : Learnt w w₁ b t m f (get_or w (l + i) 0) r) where
  abbrev x : ℕ
  x = get_or w (l + i) 0

  abbrev ks : List ℕ
  ks = slice l (l + n) w₀

  same-x : x ≡ get_or w₀ (l + i) 0
  same-x = p.rest (l + i) (inr (omega arith)) (inr (omega arith))

  x_in : x < m
  x_in = rw same-x (under i o₄)

  long_ks : length ks ≡ n
  long_ks = slice_long l n w₀ o₃

  next : drop i ks ≡ x ∷ drop (i + 1) ks
  next = drop-cons ks i 0 (omega (arith, long_ks)) ∙ rw (add-one i, at_slice l (l + n) w₀ i (omega arith), same-x)

  coming₁ : first_ones (slice b (b + r) w₁) (drop (i + 1) ks) ≡ first_ones [] ks
  coming₁ = rw q.found (rw next at p.coming)

  number : get_or w₁ (t + x) 0 ≡ suc (first_at x (first_ones [] ks))
  number =
      number-learnt w w₁ b t m f x r x_in q
      ∙ ap suc
      (sym (place-firsts x (slice b (b + r) w₁) (drop (i + 1) ks) (rw q.found (has-learnt x (slice b (b + f) w)))) ∙ ap (first_at x) coming₁)

  one_more : (k : ℕ) → k ≡ first_at x (first_ones [] ks) → PartNumbered w₀ (set w₁ (l + i) k) b t m l n (i + 1) r
  one_more k e = record {
    knows = record {
      few = q.knows.few;
      once = rw front q.knows.once;
      table = λ j h. rw front (get_or-set_other w₁ (l + i) (t + j) k 0 (λ (z : t + j ≡ l + i). let y : ⊥ = omega arith in y) ∙ q.knows.table j h);
    };
    coming = rw front coming₁;
    done = λ j h. done-go j h (ltb j i) refl;
    rest = λ j x y. get_or-set_other w₁ (l + i) j k 0 (out_more j l i y).1 ∙ q.rest j x ∙ p.rest j x (out_more j l i y).0;
  }
    where
      front : slice b (b + r) (set w₁ (l + i) k) ≡ slice b (b + r) w₁
      front =
          let u : r ≤ m = q.knows.few in
          slice-same b (b + r) (set w₁ (l + i) k) w₁ (omega (arith, length-set w₁ (l + i) k)) (omega arith) (λ j g h. get_or-set_other w₁ (l + i) j k 0 (λ (z : j ≡ l + i). let y : ⊥ = omega arith in y))

      done-go : (j : ℕ) → j < i + 1 → (t : Bool) → ltb j i ≡ t → get_or (set w₁ (l + i) k) (l + j) 0 ≡ first_at (get_or w₀ (l + j) 0) (first_ones [] ks)
      done-go j h true u =
          let v : j < i = ltb-true j i u in
          get_or-set_other w₁ (l + i) (l + j) k 0 (λ (z : l + j ≡ l + i). let y : ⊥ = omega arith in y) ∙ q.rest (l + j) (inr (omega arith)) ∙ p.done j v
      done-go j h false u =
          let v : j ≡ i = omega (arith, ltb-false j i u) in
          rw v (get_or-set_same w₁ (l + i) k 0 (omega arith) ∙ e ∙ ap (λ (y : ℕ). first_at y (first_ones [] ks)) same-x)

  pub numbering_turn : NumberTurn w₀ w₁ b t m l n i r x
  numbering_turn = record { inside = x_in; number = number; more = one_more }

pub numbering_end : (w₀ w : List ℕ) (b t m l n i f : ℕ) → length w ≡ length w₀ → l + n ≤ length w₀ → i ≡ n → PartNumbered w₀ w b t m l n i f → AllNumbered w₀ w b t m l n f
numbering_end w₀ w b t m l n i f len o e p =
    record {
      few = p.knows.few;
      found = (rw (drop_of_length-le (slice l (l + n) w₀) {i = i} (omega (arith, long))) at p.coming);
      each = λ j h. p.done j (omega arith);
      rest = λ j x y. p.rest j x (rw e y);
    }
  where
    long : length (slice l (l + n) w₀) ≡ n
    long = slice_long l n w₀ o
