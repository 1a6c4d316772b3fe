-- A turn of each loop. Assumes nothing.
use Rattle.std.specs.Prelude.{ℕ, ◌+◌, ◌-◌, ◌≤◌, ◌<◌, ◌≡◌, refl, Bool, true, false, cond, ◌⊎◌, List, eqb, length, get_or, set}
use Rattle.std.proofs.Common.{sym, ap, ◌∙◌, inl, inr, arith, eqb-true, length-set, get_or-set_same, get_or-set_other}
use Rattle.std.proofs.lemmas.Bool.{eqb-false}
use Rattle.lists.specs.FrameLaws.{Framed, framed_none, framed_then, framed_within, framed_set}
use Rattle.lists.specs.Tests.{below?, clash}
use Rattle.lists.specs.Lists.{same}
use Rattle.lists.specs.SameLaws.{same_refl, same-eq}
use Rattle.enzyme_rows.specs.Steps.{AmongFirst, FirstDiffer, RunStarts, WrittenFor, RepeatsMarked, Kept}

-- an index below i + 1 is below i, or it is i
up_to : (P : ℕ → Type 0) (i p : ℕ) → p < i + 1 → (p < i → P p) → P i → P p
up_to P i p h f g = go (below? p i)
  where
    go : (p < i) ⊎ (i ≤ p) → P p
    go (inl l) = f l
    go (inr l) = let z : p ≡ i = omega arith in rw z g

-- ---- the starts of runs

pub run-starts-none : (text : ℕ → List ℕ) (w r : List ℕ) → RunStarts text w r 0
run-starts-none text w r = record { start = λ h. absurd (omega arith); same = λ p q e h. absurd (omega arith); differ = λ p q e h. absurd (omega arith) }

-- the last one passed and its run's start, from which the next start follows
pub record Passed (w r : List ℕ) (i last run : ℕ) : Type 0 where
  pub none : i ≡ 0 → (last ≡ 0) × (run ≡ 0)
  pub some : (p : ℕ) → i ≡ p + 1 → (last ≡ get_or w p 0) × (run ≡ get_or r p 0)

module _ (text : ℕ → List ℕ) (w r : List ℕ) (i last run : ℕ) (c : RunStarts text w r i) (d : Passed w r i last run) (room : i < length r)
    (v : ℕ) (e : v ≡ cond (same (text last) (text (get_or w i 0))) run i)
  where
    old : (p : ℕ) → p < i → get_or (set r i v) p 0 ≡ get_or r p 0
    old p h = get_or-set_other r i p v 0 (λ (z : p ≡ i). omega arith)

    new : get_or (set r i v) i 0 ≡ v
    new = get_or-set_same r i v 0 room

    pub run-starts-more : RunStarts text w (set r i v) (i + 1)
    run-starts-more = record {
      start = λ h. first (below? 0 i);
      same = λ p q a h b. like p q a h b (below? q i);
      differ = λ p q a h b. unlike p q a h b (below? q i);
    }
      where
        zeroth : (t : Bool) → run ≡ 0 → i ≡ 0 → cond t run i ≡ 0
        zeroth true a b = a
        zeroth false a b = b

        first : (0 < i) ⊎ (i ≤ 0) → get_or (set r i v) 0 0 ≡ 0
        first (inl h) = old 0 h ∙ c.start h
        first (inr h) =
            let z : i ≡ 0 = omega arith in
            let a : get_or (set r i v) i 0 ≡ 0 = new ∙ e ∙ zeroth (same (text last) (text (get_or w i 0))) (d.none z).1 z in
            ap (λ (q : ℕ). get_or (set r i v) q 0) (sym z) ∙ a

        like : (p q : ℕ) → q ≡ p + 1 → q < i + 1 → text (get_or w p 0) ≡ text (get_or w q 0) → (q < i) ⊎ (i ≤ q) → get_or (set r i v) q 0 ≡ get_or (set r i v) p 0
        like p q a h b (inl l) = old q l ∙ c.same p q a l b ∙ sym (old p (omega arith))
        like p q a h b (inr l) =
            let z : q ≡ i = omega arith in
            let s = d.some p (omega arith) in
            let t : text last ≡ text (get_or w i 0) = ap text s.0 ∙ b ∙ ap (λ (n : ℕ). text (get_or w n 0)) z in
            let u : v ≡ run = e ∙ rw (t, same_refl (text (get_or w i 0))) in
            ap (λ (n : ℕ). get_or (set r i v) n 0) z ∙ new ∙ u ∙ s.1 ∙ sym (old p (omega arith))

        other : (t : Bool) → same (text last) (text (get_or w i 0)) ≡ t → (text last ≡ text (get_or w i 0) → ⊥) → cond t run i ≡ i
        other true a b = absurd (b (same-eq (text last) (text (get_or w i 0)) a))
        other false a b = refl

        unlike : (p q : ℕ) → q ≡ p + 1 → q < i + 1 → (text (get_or w p 0) ≡ text (get_or w q 0) → ⊥) → (q < i) ⊎ (i ≤ q) → get_or (set r i v) q 0 ≡ q
        unlike p q a h b (inl l) = old q l ∙ c.differ p q a l b
        unlike p q a h b (inr l) =
            let z : q ≡ i = omega arith in
            let s = d.some p (omega arith) in
            let u : v ≡ i = e ∙ other (same (text last) (text (get_or w i 0))) refl (λ (t : text last ≡ text (get_or w i 0)). b (ap text (sym s.0) ∙ t ∙ ap (λ (n : ℕ). text (get_or w n 0)) (sym z))) in
            ap (λ (n : ℕ). get_or (set r i v) n 0) z ∙ new ∙ u ∙ sym z

    pub passed-more : Passed w (set r i v) (i + 1) (get_or w i 0) v
    passed-more = record {
      none = λ h. absurd (omega arith);
      some = λ p h. let z : p ≡ i = omega arith in (ap (λ (n : ℕ). get_or w n 0) (sym z), sym new ∙ ap (λ (n : ℕ). get_or (set r i v) n 0) (sym z));
    }

pub passed_none : (w r : List ℕ) → Passed w r 0 0 0
passed_none w r = record { none = λ h. (refl, refl); some = λ p h. absurd (omega arith) }

-- the last one passed is one of the row, or 0
pub passed-has : (w r : List ℕ) (g i last run : ℕ) → i < g → Passed w r i last run → ((z : ℕ) × AmongFirst w g z × (last ≤ z))
passed-has w r g i last run h d = go (below? 0 i)
  where
    go : (0 < i) ⊎ (i ≤ 0) → ((z : ℕ) × AmongFirst w g z × (last ≤ z))
    go (inl l) = let e = (d.some (i - 1) (omega arith)).0 in (get_or w (i - 1) 0, (i - 1, omega arith, refl), omega arith)
    go (inr l) = let e = (d.none (omega arith)).0 in (get_or w i 0, (i, h, refl), omega arith)

-- ---- numbers written for the first i of a row

has_more : (w : List ℕ) (i z : ℕ) → AmongFirst w i z → AmongFirst w (i + 1) z
has_more w i z (p, h, e) = (p, omega arith, e)

-- a store for the i-th changes none of those before it
module _ (w x : List ℕ) (i v : ℕ) (g : ℕ) (a : FirstDiffer w g) (h : i < g) where
  spared : (p : ℕ) → p < i → get_or (set x (get_or w i 0) v) (get_or w p 0) 0 ≡ get_or x (get_or w p 0) 0
  spared p l = get_or-set_other x (get_or w i 0) (get_or w p 0) v 0 (λ (z : get_or w p 0 ≡ get_or w i 0). a p i l h z)

  untouched : (z : ℕ) → (AmongFirst w (i + 1) z → ⊥) → get_or (set x (get_or w i 0) v) z 0 ≡ get_or x z 0
  untouched z n = get_or-set_other x (get_or w i 0) z v 0 (λ (q : z ≡ get_or w i 0). n (i, omega arith, sym q))

pub written_for_none : (f : ℕ → ℕ) (w y : List ℕ) → WrittenFor f w y y 0
written_for_none f w y = record { long = refl; at = λ p h. absurd (omega arith); rest = λ z n. refl }

pub written_for_more : (f : ℕ → ℕ) (w y x : List ℕ) (g i : ℕ) → FirstDiffer w g → i < g → get_or w i 0 < length y → WrittenFor f w y x i → WrittenFor f w y (set x (get_or w i 0) (f i)) (i + 1)
written_for_more f w y x g i a h room b = record {
  long = length-set x (get_or w i 0) (f i) ∙ b.long;
  at = λ p l. up_to (λ (p : ℕ). get_or (set x (get_or w i 0) (f i)) (get_or w p 0) 0 ≡ f p) i p l
      (λ k. spared w x i (f i) g a h p k ∙ b.at p k)
      (get_or-set_same x (get_or w i 0) (f i) 0 (omega (arith, b.long)));
  rest = λ z n. untouched w x i (f i) g a h z n ∙ b.rest z (λ (k : AmongFirst w i z). n (has_more w i z k));
}

pub repeats-marked-none : (w r y : List ℕ) (n : ℕ) → RepeatsMarked w r y y n 0
repeats-marked-none w r y n = record { long = refl; later = λ p h. absurd (omega arith); first = λ p h. absurd (omega arith); rest = λ z k. refl }

module _ (w r y x : List ℕ) (n g i : ℕ) (a : FirstDiffer w g) (h : i < g) (room : get_or w i 0 < length y) (b : RepeatsMarked w r y x n i)
    (v : ℕ) (e : v ≡ cond (eqb (get_or r i 0) i) (get_or x (get_or w i 0) 0) n)
  where
    here : get_or (set x (get_or w i 0) v) (get_or w i 0) 0 ≡ v
    here = get_or-set_same x (get_or w i 0) v 0 (omega (arith, b.long))

    hit : (t : Bool) → eqb (get_or r i 0) i ≡ t → (get_or r i 0 ≡ i → ⊥) → cond t (get_or x (get_or w i 0) 0) n ≡ n
    hit true c d = absurd (d (eqb-true (get_or r i 0) i c))
    hit false c d = refl

    miss : (t : Bool) → eqb (get_or r i 0) i ≡ t → get_or r i 0 ≡ i → cond t (get_or x (get_or w i 0) 0) n ≡ get_or x (get_or w i 0) 0
    miss true c d = refl
    miss false c d = absurd (eqb-false (get_or r i 0) i c d)

    unseen : AmongFirst w i (get_or w i 0) → ⊥
    unseen (p, l, q) = a p i l h q

    pub repeats-marked-more : RepeatsMarked w r y (set x (get_or w i 0) v) n (i + 1)
    repeats-marked-more = record {
      long = length-set x (get_or w i 0) v ∙ b.long;
      later = λ p l. up_to (λ (p : ℕ). (get_or r p 0 ≡ p → ⊥) → get_or (set x (get_or w i 0) v) (get_or w p 0) 0 ≡ n) i p l
          (λ k d. spared w x i v g a h p k ∙ b.later p k d)
          (λ d. here ∙ e ∙ hit (eqb (get_or r i 0) i) refl d);
      first = λ p l. up_to (λ (p : ℕ). get_or r p 0 ≡ p → get_or (set x (get_or w i 0) v) (get_or w p 0) 0 ≡ get_or y (get_or w p 0) 0) i p l
          (λ k d. spared w x i v g a h p k ∙ b.first p k d)
          (λ d. here ∙ e ∙ miss (eqb (get_or r i 0) i) refl d ∙ b.rest (get_or w i 0) unseen);
      rest = λ z m. untouched w x i v g a h z m ∙ b.rest z (λ (k : AmongFirst w i z). m (has_more w i z k));
    }

-- ---- those that stay

pub kept-none : (stay : ℕ → Bool) (y : List ℕ) → Kept stay y y 0 0
kept-none stay y = record {
  long = refl;
  few = omega arith;
  from = λ q h. absurd (omega arith);
  each = λ p h. absurd (omega arith);
  apart = λ i j h k. absurd (omega arith);
  rest = framed_none 0 0 y;
}

module _ (stay : ℕ → Bool) (y x : List ℕ) (g i k : ℕ) (a : FirstDiffer y g) (h : i < g) (room : g ≤ length y) (c : Kept stay y x i k) where
  front : (q : ℕ) → q < k → get_or (set x k (get_or y i 0)) q 0 ≡ get_or x q 0
  front q l = get_or-set_other x k q (get_or y i 0) 0 (λ (z : q ≡ k). omega arith)

  seat : get_or (set x k (get_or y i 0)) k 0 ≡ get_or y i 0
  seat = let f = c.few in get_or-set_same x k (get_or y i 0) 0 (omega (arith, c.long))

  behind : Framed 0 (i + 1) y (set x k (get_or y i 0))
  behind = let f = c.few in
      framed_then 0 (i + 1) y x (set x k (get_or y i 0)) (framed_within 0 0 i (i + 1) y x (omega arith) (omega arith) c.rest) (framed_set 0 (i + 1) k (get_or y i 0) x (omega arith) (omega arith))

  long₁ : length (set x k (get_or y i 0)) ≡ length y
  long₁ = length-set x k (get_or y i 0) ∙ c.long

  has₁ : (z : ℕ) → AmongFirst x k z → AmongFirst (set x k (get_or y i 0)) k z
  has₁ z (q, l, e) = (q, l, front q l ∙ e)

  pub kept-left : stay i ≡ false → Kept stay y (set x k (get_or y i 0)) (i + 1) k
  kept-left s = record {
    long = long₁;
    few = omega (arith, c.few);
    from = λ q l. let f = c.from q l in (f.0, omega (arith, f.1), f.2, front q l ∙ f.3);
    each = λ p l. up_to (λ (p : ℕ). stay p ≡ true → AmongFirst (set x k (get_or y i 0)) k (get_or y p 0)) i p l (λ m t. has₁ (get_or y p 0) (c.each p m t)) (λ t. clash t s);
    apart = λ q r m n e. c.apart q r m n (sym (front q (omega arith)) ∙ e ∙ front r n);
    rest = behind;
  }

  pub kept_more : stay i ≡ true → Kept stay y (set x k (get_or y i 0)) (i + 1) (k + 1)
  kept_more s = record {
    long = long₁;
    few = omega (arith, c.few);
    from = λ q l. up_to (λ (q : ℕ). ((p : ℕ) × (p < i + 1) × (stay p ≡ true) × (get_or (set x k (get_or y i 0)) q 0 ≡ get_or y p 0))) k q l
        (λ m. let f = c.from q m in (f.0, omega (arith, f.1), f.2, front q m ∙ f.3))
        (i, omega arith, s, seat);
    each = λ p l. up_to (λ (p : ℕ). stay p ≡ true → AmongFirst (set x k (get_or y i 0)) (k + 1) (get_or y p 0)) i p l
        (λ m t. has_more (set x k (get_or y i 0)) k (get_or y p 0) (has₁ (get_or y p 0) (c.each p m t)))
        (λ t. (k, omega arith, seat));
    apart = λ q r m n. up_to (λ (r : ℕ). q < r → get_or (set x k (get_or y i 0)) q 0 ≡ get_or (set x k (get_or y i 0)) r 0 → ⊥) k r n
        (λ l o e. c.apart q r o l (sym (front q (omega arith)) ∙ e ∙ front r l))
        (λ o e. let f = c.from q o in a f.0 i f.1 h (sym f.3 ∙ sym (front q o) ∙ e ∙ seat)) m;
    rest = behind;
  }

pub kept-turn : (stay : ℕ → Bool) (y x : List ℕ) (g i k v : ℕ) (more : Bool) → FirstDiffer y g → i < g → g ≤ length y → Kept stay y x i k → v ≡ get_or y i 0 → more ≡ stay i
    → Kept stay y (set x k v) (i + 1) (cond more (k + 1) k)
kept-turn stay y x g i k v more a h room c e s = rw e (go more s)
  where
    go : (b : Bool) → b ≡ stay i → Kept stay y (set x k (get_or y i 0)) (i + 1) (cond b (k + 1) k)
    go true q = kept_more stay y x g i k a h room c (sym q)
    go false q = kept-left stay y x g i k a h room c (sym q)

-- ---- tables filled one by one
