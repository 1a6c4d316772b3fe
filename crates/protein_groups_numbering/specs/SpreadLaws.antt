-- The leaders' texts spread out in a lent slice. Assumes nothing.
use Rattle.std.specs.Prelude.{◌≡◌, refl, Bool, true, false, List, [], ◌∷◌, ◌++◌, ℕ, ◌+◌, ◌-◌, ◌≤◌, ◌<◌, ltb, length, get_or, drop, set, replicate}
use Rattle.std.proofs.Common.{sym, ap, ◌∙◌, inl, inr, append-nil, append_assoc, add-one, arith, ltb-true, ltb-false, eq-eqb, ne_eqb, length-set, length-append, drop_of_length-le, drop-cons, get_or-set_same, get_or-set_other, ext_get_or}
use Rattle.std.proofs.lemmas.List.{length-replicate, get_or-replicate, length-map}
use Rattle.std.proofs.Math.Seq.{slice, slice_empty, length-slice}
use Rattle.lists.specs.FrameLaws.{Out, Framed, framed_none}
use Rattle.sorting_spec.specs.PartLaws.{at_slice, slice-same, slice-join}
use Rattle.cover_spec.specs.Cover.{Edge}
use Rattle.protein_groups_spec.specs.CountingLaws.{along, metas_in, groups_in}
use Rattle.protein_groups_spec.specs.LeaderLaws.{spread_by}
use Rattle.protein_groups_numbering.specs.declared.plan.Plan.{Plan}
use Rattle.protein_groups_numbering.specs.SliceLaws.{slice_long, out_more}

-- ---- one run copied

-- w has w₀'s `len` numbers from `from` on from a on, and g as often from b on
pub record RunCopied (w₀ w : List ℕ) (from len a b g : ℕ) : Type 0 where
  pub keys : (j : ℕ) → j < len → get_or w (a + j) 0 ≡ get_or w₀ (from + j) 0
  pub values : (j : ℕ) → j < len → get_or w (b + j) 0 ≡ g
  pub rest : (j : ℕ) → Out j a (a + len) → Out j b (b + len) → get_or w j 0 ≡ get_or w₀ j 0

pub run-copied-none : (w : List ℕ) (from a b g : ℕ) → RunCopied w w from 0 a b g
run-copied-none w from a b g = record {
  keys = λ j h. let f : ⊥ = omega arith in absurd f;
  values = λ j h. let f : ⊥ = omega arith in absurd f;
  rest = λ j x y. refl;
}

pub run-copied-more : (w₀ w : List ℕ) (from i len a b g v : ℕ) → i < len → from + len ≤ a → a + len ≤ b → b + len ≤ length w → v ≡ get_or w (from + i) 0 → RunCopied w₀ w from i a b g
    → RunCopied w₀ (set (set w (a + i) v) (b + i) g) from (i + 1) a b g
run-copied-more w₀ w from i len a b g v o₁ o₂ o₃ o₄ e p = record {
  keys = λ j h. keys-go j h (ltb j i) refl;
  values = λ j h. values_go j h (ltb j i) refl;
  rest = λ j x y. other j (out_more j b i y).1 (out_more j a i x).1 ∙ p.rest j (out_more j a i x).0 (out_more j b i y).0;
}
  where
    other : (j : ℕ) → (j ≡ b + i → ⊥) → (j ≡ a + i → ⊥) → get_or (set (set w (a + i) v) (b + i) g) j 0 ≡ get_or w j 0
    other j y z = get_or-set_other (set w (a + i) v) (b + i) j g 0 y ∙ get_or-set_other w (a + i) j v 0 z

    keys-go : (j : ℕ) → j < i + 1 → (t : Bool) → ltb j i ≡ t → get_or (set (set w (a + i) v) (b + i) g) (a + j) 0 ≡ get_or w₀ (from + j) 0
    keys-go j h true q =
        let u : j < i = ltb-true j i q in
        other (a + j) (λ (z : a + j ≡ b + i). let f : ⊥ = omega arith in f) (λ (z : a + j ≡ a + i). let f : ⊥ = omega arith in f) ∙ p.keys j u
    keys-go j h false q =
        let u : j ≡ i = omega (arith, ltb-false j i q) in
        rw u
        (get_or-set_other (set w (a + i) v) (b + i) (a + i) g 0 (λ (z : a + i ≡ b + i). let f : ⊥ = omega arith in f)
        ∙ get_or-set_same w (a + i) v 0 (omega arith)
        ∙ e
        ∙ p.rest (from + i) (inl (omega arith)) (inl (omega arith)))

    values_go : (j : ℕ) → j < i + 1 → (t : Bool) → ltb j i ≡ t → get_or (set (set w (a + i) v) (b + i) g) (b + j) 0 ≡ g
    values_go j h true q =
        let u : j < i = ltb-true j i q in
        other (b + j) (λ (z : b + j ≡ b + i). let f : ⊥ = omega arith in f) (λ (z : b + j ≡ a + i). let f : ⊥ = omega arith in f) ∙ p.values j u
    values_go j h false q =
        let u : j ≡ i = omega (arith, ltb-false j i q) in
        rw u (get_or-set_same (set w (a + i) v) (b + i) g 0 (rw (length-set w (a + i) v) (omega arith)))

-- ---- what stands where

-- x's text: the boundaries stand from e on, the lists from f on
abbrev pub text_at : List ℕ → ℕ → ℕ → ℕ → List ℕ
text_at w e f x = slice (f + get_or w (e + x) 0) (f + get_or w (e + x + 1) 0) w

-- the texts of a plan, its first t things and their runs' numbers, and its first k keys and values
abbrev pub plan_text : Plan → List ℕ → ℕ → List ℕ
plan_text p w = text_at w p.bounds p.texts

abbrev pub things_to : Plan → ℕ → List ℕ → List ℕ
things_to p t w = slice p.things (p.things + t) w

abbrev pub runs_to : Plan → ℕ → List ℕ → List ℕ
runs_to p t w = slice p.runs (p.runs + t) w

abbrev pub keys_to : Plan → ℕ → List ℕ → List ℕ
keys_to p k w = slice p.keys (p.keys + k) w

abbrev pub values_to : Plan → ℕ → List ℕ → List ℕ
values_to p k w = slice p.values (p.values + k) w

-- the thing at place j, and where its text begins and ends
abbrev pub thing_at : Plan → List ℕ → ℕ → ℕ
thing_at p w j = get_or w (p.things + j) 0

abbrev pub low_at : Plan → List ℕ → ℕ → ℕ
low_at p w j = get_or w (p.bounds + thing_at p w j) 0

abbrev pub high_at : Plan → List ℕ → ℕ → ℕ
high_at p w j = get_or w (p.bounds + thing_at p w j + 1) 0

-- ---- one text spread

-- what it asks: the thing and its text stand before the keys, and there is room behind k keys and values
pub record TextAsked (w : List ℕ) (p : Plan) (j k : ℕ) : Type 0 where
  pub thing : p.things + j < p.keys
  pub bounds : p.bounds + thing_at p w j + 1 < p.keys
  pub rises : low_at p w j ≤ high_at p w j
  pub ends : p.texts + high_at p w j ≤ p.keys
  pub keys : p.keys + (k + (high_at p w j - low_at p w j)) ≤ p.values
  pub fits : p.values + (k + (high_at p w j - low_at p w j)) ≤ length w

pub record TextSpread (w₀ w : List ℕ) (p : Plan) (j k g r : ℕ) : Type 0 where
  pub size : r ≡ high_at p w₀ j - low_at p w₀ j
  pub copied : RunCopied w₀ w (p.texts + low_at p w₀ j) (high_at p w₀ j - low_at p w₀ j) (p.keys + k) (p.values + k) g

-- ---- all runs spread

-- what is spread
abbrev pub spread_of : Plan → ℕ → List ℕ → List Edge
spread_of p t w = spread_by (plan_text p w) 0 (runs_to p t w) (things_to p t w)

-- what is still to be spread at the j-th thing, where so many runs were seen
abbrev spread_from : Plan → ℕ → List ℕ → ℕ → ℕ → List Edge
spread_from p t w seen j = spread_by (plan_text p w) seen (drop j (runs_to p t w)) (drop j (things_to p t w))

-- what spreading asks: t things in order, their runs' numbers and their texts, all before the keys
pub record Spreadable (w : List ℕ) (p : Plan) (t : ℕ) : Type 0 where
  pub order : p.things + t ≤ p.keys
  pub ranks : p.runs + t ≤ p.keys
  pub keys : p.keys + p.count ≤ p.values
  pub fits : p.values + p.count ≤ length w
  pub few : t < 4294967296
  pub bounds : (j : ℕ) → j < t → p.bounds + thing_at p w j + 1 < p.keys
  pub rises : (j : ℕ) → j < t → low_at p w j ≤ high_at p w j
  pub ends : (j : ℕ) → j < t → p.texts + high_at p w j ≤ p.keys
  pub room : length (spread_of p t w) ≤ p.count

-- THE RESULT: k keys and values
pub record RunsSpread (w₀ w : List ℕ) (p : Plan) (t k : ℕ) : Type 0 where
  pub few : k ≤ p.count
  pub keys : keys_to p k w ≡ metas_in (spread_of p t w₀)
  pub values : values_to p k w ≡ groups_in (spread_of p t w₀)
  pub rest : Framed p.keys (p.values + p.count) w₀ w

-- the first j things passed
pub record Spreading (w₀ w : List ℕ) (p : Plan) (t j seen k : ℕ) : Type 0 where
  pub few : k ≤ p.count
  pub count : seen ≤ j
  pub keys : keys_to p k w ++ metas_in (spread_from p t w₀ seen j) ≡ metas_in (spread_of p t w₀)
  pub values : values_to p k w ++ groups_in (spread_from p t w₀ seen j) ≡ groups_in (spread_of p t w₀)
  pub rest : Framed p.keys (p.values + p.count) w₀ w

pub spreading_none : (w : List ℕ) (p : Plan) (t : ℕ) → Spreading w w p t 0 0 0
spreading_none w p t = record {
  few = omega arith;
  count = omega arith;
  keys = let u : p.keys + 0 ≡ p.keys = omega arith in rw (u, slice_empty p.keys w);
  values = let u : p.values + 0 ≡ p.values = omega arith in rw (u, slice_empty p.values w);
  rest = framed_none p.keys (p.values + p.count) w;
}

-- keys and values of what is along, and of two parts
metas_append : (xs ys : List Edge) → metas_in (xs ++ ys) ≡ metas_in xs ++ metas_in ys
metas_append [] ys = refl
metas_append (x ∷ xs) ys = ap (λ (l : List ℕ). x.1 ∷ l) (metas_append xs ys)

groups_append : (xs ys : List Edge) → groups_in (xs ++ ys) ≡ groups_in xs ++ groups_in ys
groups_append [] ys = refl
groups_append (x ∷ xs) ys = ap (λ (l : List ℕ). x.0 ∷ l) (groups_append xs ys)

metas-along : (g : ℕ) (l : List ℕ) → metas_in (along g l) ≡ l
metas-along g [] = refl
metas-along g (x ∷ xs) = ap (λ (l : List ℕ). x ∷ l) (metas-along g xs)

groups-along : (g : ℕ) (l : List ℕ) → groups_in (along g l) ≡ replicate (length l) g
groups-along g [] = refl
groups-along g (x ∷ xs) = ap (λ (l : List ℕ). g ∷ l) (groups-along g xs)

-- k numbers from a on, and d more that were written behind them
grown : (a k d : ℕ) (w w₁ more : List ℕ) → length w₁ ≡ length w → a + (k + d) ≤ length w₁ → length more ≡ d
    → ((i : ℕ) → i < d → get_or w₁ (a + k + i) 0 ≡ get_or more i 0) → ((i : ℕ) → a ≤ i → i < a + k → get_or w₁ i 0 ≡ get_or w i 0)
    → slice a (a + (k + d)) w₁ ≡ slice a (a + k) w ++ more
grown a k d w w₁ more len fits long new old =
    sym (slice-join a (a + k) (a + (k + d)) w₁ (omega arith) (omega arith) fits)
    ∙ ap (λ (l : List ℕ). l ++ slice (a + k) (a + (k + d)) w₁) (slice-same a (a + k) w₁ w (omega arith) (omega arith) old)
    ∙ ap (λ (l : List ℕ). slice a (a + k) w ++ l)
    (ext_get_or 0 (slice (a + k) (a + (k + d)) w₁) more (long₁ ∙ sym long)
    (λ i y. let v : i < d = omega (arith, long₁) in at_slice (a + k) (a + (k + d)) w₁ i (omega arith) ∙ new i v))
  where
    long₁ : length (slice (a + k) (a + (k + d)) w₁) ≡ d
    long₁ = length-slice (a + k) (a + (k + d)) w₁ fits ∙ (let u : a + (k + d) - (a + k) ≡ d = omega arith in u)

module _ (w₀ w : List ℕ) (p : Plan) (t j seen k : ℕ) (len : length w ≡ length w₀) (q : Spreadable w₀ p t) (h : j < t) (s : Spreading w₀ w p t j seen k) where
  abbrev rs : List ℕ
  rs = runs_to p t w₀

  abbrev os : List ℕ
  os = things_to p t w₀

  abbrev g : ℕ
  g = get_or w₀ (p.runs + j) 0

  abbrev x : ℕ
  x = thing_at p w₀ j

  abbrev lo : ℕ
  lo = low_at p w₀ j

  abbrev hi : ℕ
  hi = high_at p w₀ j

  pub read-run : get_or w (p.runs + j) 0 ≡ g
  read-run = s.rest (p.runs + j) (inl (omega (arith, q.ranks)))

  read_thing : thing_at p w j ≡ x
  read_thing = s.rest (p.things + j) (inl (omega (arith, q.order)))

  read_low : low_at p w j ≡ lo
  read_low = rw read_thing (s.rest (p.bounds + x) (inl (omega (arith, q.bounds j h))))

  read_high : high_at p w j ≡ hi
  read_high = rw read_thing (s.rest (p.bounds + x + 1) (inl (q.bounds j h)))

  long_r : length rs ≡ t
  long_r = slice_long p.runs t w₀ (omega (arith, q.ranks, q.keys, q.fits))

  long_o : length os ≡ t
  long_o = slice_long p.things t w₀ (omega (arith, q.order, q.keys, q.fits))

  next-r : drop j rs ≡ g ∷ drop (j + 1) rs
  next-r = drop-cons rs j 0 (omega (arith, long_r)) ∙ rw (add-one j, at_slice p.runs (p.runs + t) w₀ j (omega arith))

  next-o : drop j os ≡ x ∷ drop (j + 1) os
  next-o = drop-cons os j 0 (omega (arith, long_o)) ∙ rw (add-one j, at_slice p.things (p.things + t) w₀ j (omega arith))

  -- no leader
  pub spreading_skip : (g ≡ seen → ⊥) → Spreading w₀ w p t (j + 1) seen k
  spreading_skip z =
      let u : spread_from p t w₀ seen j ≡ spread_from p t w₀ seen (j + 1) = rw (next-r, next-o, ne_eqb g seen z) in
      record {
        few = s.few;
        count = omega (arith, s.count);
        keys = rw u at s.keys;
        values = rw u at s.values;
        rest = s.rest;
      }

  -- a leader
  module _ (z : g ≡ seen) where
    abbrev A : List ℕ
    A = plan_text p w₀ x

    abbrev R : List Edge
    R = spread_from p t w₀ (seen + 1) (j + 1)

    leads : spread_from p t w₀ seen j ≡ along g A ++ R
    leads = rw (next-r, next-o, eq-eqb g seen z)

    long_text : length A ≡ hi - lo
    long_text =
        length-slice (p.texts + lo) (p.texts + hi) w₀ (omega (arith, q.ends j h, q.keys, q.fits))
        ∙ (let u : (p.texts + hi) - (p.texts + lo) ≡ hi - lo = omega (arith, q.rises j h) in u)

    long_keys : length (keys_to p k w) ≡ k
    long_keys = slice_long p.keys k w (omega (arith, s.few, q.keys, q.fits))

    keys_lead : keys_to p k w ++ (A ++ metas_in R) ≡ metas_in (spread_of p t w₀)
    keys_lead = rw (leads, metas_append (along g A) R, metas-along g A) at s.keys

    values_lead : values_to p k w ++ (replicate (length A) g ++ groups_in R) ≡ groups_in (spread_of p t w₀)
    values_lead = rw (leads, groups_append (along g A) R, groups-along g A) at s.values

    -- there is room
    enough : k + (hi - lo) ≤ p.count
    enough =
        omega (arith, ap length keys_lead, length-append (keys_to p k w) (A ++ metas_in R), length-append A (metas_in R), long_keys, long_text, length-map (spread_of p t w₀) (λ (e : Edge). e.1), q.room)

    pub text-asked : TextAsked w p j k
    text-asked = record {
      thing = omega (arith, q.order);
      bounds = rw read_thing (q.bounds j h);
      rises = rw (read_low, read_high) (q.rises j h);
      ends = rw read_high (q.ends j h);
      keys = rw (read_low, read_high) (omega (arith, enough, q.keys));
      fits = rw (read_low, read_high) (omega (arith, enough, q.fits));
    }

    module _ (w₁ : List ℕ) (r : ℕ) (len₁ : length w₁ ≡ length w) (d : TextSpread w w₁ p j k (get_or w (p.runs + j) 0) r) where
      size : r ≡ hi - lo
      size = rw (read_low, read_high) at d.size

      copied : RunCopied w w₁ (p.texts + lo) r (p.keys + k) (p.values + k) g
      copied = rw size (rw (read_low, read_high, read-run) at d.copied)

      keys-more : keys_to p (k + r) w₁ ≡ keys_to p k w ++ A
      keys-more =
          grown p.keys k r w w₁ A len₁ (omega (arith, size, enough, q.keys, q.fits)) (long_text ∙ sym size)
          (λ i v.
          copied.keys i v
          ∙ s.rest (p.texts + lo + i) (inl (omega (arith, size, q.ends j h)))
          ∙ sym (at_slice (p.texts + lo) (p.texts + hi) w₀ i (omega (arith, size))))
          (λ i y v. copied.rest i (inl v) (inl (omega (arith, size, enough, q.keys))))

      values_more : values_to p (k + r) w₁ ≡ values_to p k w ++ replicate (length A) g
      values_more =
          grown p.values k r w w₁ (replicate (length A) g) len₁ (omega (arith, size, enough, q.fits)) (length-replicate (length A) g ∙ long_text ∙ sym size)
          (λ i v. copied.values i v ∙ sym (get_or-replicate (length A) i g 0 (omega (arith, size, long_text))))
          (λ i y v. copied.rest i (inr (omega (arith, size, enough, q.keys))) (inl v))

      rest_more : Framed p.keys (p.values + p.count) w w₁
      rest_more i (inl y) = copied.rest i (inl (omega arith)) (inl (omega (arith, q.keys)))
      rest_more i (inr y) = copied.rest i (inr (omega (arith, size, enough, q.keys))) (inr (omega (arith, size, enough)))

      pub spreading_more : Spreading w₀ w₁ p t (j + 1) (seen + 1) (k + r)
      spreading_more = record {
        few = omega (arith, size, enough);
        count = omega (arith, s.count);
        keys = ap (λ (l : List ℕ). l ++ metas_in R) keys-more ∙ append_assoc (keys_to p k w) A (metas_in R) ∙ keys_lead;
        values = ap (λ (l : List ℕ). l ++ groups_in R) values_more ∙ append_assoc (values_to p k w) (replicate (length A) g) (groups_in R) ∙ values_lead;
        rest = λ i y. rest_more i y ∙ s.rest i y;
      }

pub spreading_end : (w₀ w : List ℕ) (p : Plan) (t j seen k : ℕ) → Spreadable w₀ p t → j ≡ t → Spreading w₀ w p t j seen k → RunsSpread w₀ w p t k
spreading_end w₀ w p t j seen k q z s =
    let long : length (runs_to p t w₀) ≤ j = omega (arith, slice_long p.runs t w₀ (omega (arith, q.ranks, q.keys, q.fits))) in
    let u : drop j (runs_to p t w₀) ≡ [] = drop_of_length-le (runs_to p t w₀) {i = j} long in
    record {
      few = s.few;
      keys = sym (append-nil (keys_to p k w)) ∙ (rw u at s.keys);
      values = sym (append-nil (values_to p k w)) ∙ (rw u at s.values);
      rest = s.rest;
    }
