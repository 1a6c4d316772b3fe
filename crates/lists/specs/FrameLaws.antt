-- What a step leaves as it was: every place of a list outside a..e. Assumes nothing.
use Rattle.std.specs.Prelude.{ℕ, zero, suc, ◌+◌, ◌-◌, ◌≤◌, ◌<◌, ◌≡◌, refl, ◌⊎◌, List, length, get_or, take, set, replicate}
use Rattle.std.proofs.Common.{sym, ap, ◌∙◌, inl, inr, arith, below_more, get_or-set_same, get_or-set_other, get_or-take, get_or-drop, get_or-append-add, length-take-le}
use borrow.Rule.Slice.PartMut.{put_mid, take_put, drop_put}
use Rattle.std.proofs.Math.ListN.{get_or-append}
use Rattle.std.proofs.lemmas.List.{length-replicate}

-- place i stands outside a..e
abbrev pub Out : ℕ → ℕ → ℕ → Type 0
Out i a e = (i < a) ⊎ (e ≤ i)

-- new is old, but for the places a..e
abbrev pub Framed : ℕ → ℕ → List ℕ → List ℕ → Type 0
Framed a e old new = (i : ℕ) → Out i a e → get_or new i 0 ≡ get_or old i 0

pub framed_none : (a e : ℕ) (w : List ℕ) → Framed a e w w
framed_none a e w i o = refl

pub framed_then : (a e : ℕ) (u v w : List ℕ) → Framed a e u v → Framed a e v w → Framed a e u w
framed_then a e u v w p q i o = q i o ∙ p i o

-- outside more places, fewer are left
pub framed_within : (a b c e : ℕ) (v w : List ℕ) → a ≤ b → c ≤ e → Framed b c v w → Framed a e v w
framed_within a b c e v w p q f i (inl h) = f i (inl (omega arith))
framed_within a b c e v w p q f i (inr h) = f i (inr (omega arith))

pub framed_set : (a e k x : ℕ) (w : List ℕ) → a ≤ k → k < e → Framed a e w (set w k x)
framed_set a e k x w p q i (inl h) = get_or-set_other w k i x 0 (λ (z : i ≡ k). let f : ⊥ = omega arith in f)
framed_set a e k x w p q i (inr h) = get_or-set_other w k i x 0 (λ (z : i ≡ k). let f : ⊥ = omega arith in f)

-- a list written from its front on: one place more holds what it should
pub set_more : (f : ℕ → ℕ) (w : List ℕ) (i x : ℕ) → i < length w → x ≡ f i → ((j : ℕ) → j < i → get_or w j 0 ≡ f j) → (j : ℕ) → j < i + 1 → get_or (set w i x) j 0 ≡ f j
set_more f w i x h e g = below_more (λ (j : ℕ). get_or (set w i x) j 0 ≡ f j) i (λ j l. get_or-set_other w i j x 0 (λ (z : j ≡ i). let f : ⊥ = omega arith in f) ∙ g j l) (get_or-set_same w i x 0 h ∙ e)

-- a part of a slice that was lent
module _ (a e : ℕ) (w ys : List ℕ) (p : a ≤ e) (q : e ≤ length w) (l : length ys ≡ e - a) where
  pub framed_part : Framed a e w (put_mid a (e - a) w ys)
  framed_part i (inl h) =
      sym (get_or-take a (put_mid a (e - a) w ys) i 0 h)
      ∙ ap (λ (x : List ℕ). get_or x i 0) (take_put a (e - a) w ys (omega arith))
      ∙ get_or-take a w i 0 h
  framed_part i (inr h) =
      let back : i ≡ e + (i - e) = omega arith in
      ap (λ (k : ℕ). get_or (put_mid a (e - a) w ys) k 0) back
      ∙ sym (get_or-drop e (put_mid a (e - a) w ys) (i - e) 0)
      ∙ ap (λ (x : List ℕ). get_or x (i - e) 0) (drop_put a e w ys p q l)
      ∙ get_or-drop e w (i - e) 0
      ∙ ap (λ (k : ℕ). get_or w k 0) (sym back)

  pub part_at : (i : ℕ) → i < e - a → get_or (put_mid a (e - a) w ys) (a + i) 0 ≡ get_or ys i 0
  part_at i h =
      let n : length (take a w) ≡ a = length-take-le a w (omega arith) in
      ap (λ (k : ℕ). get_or (put_mid a (e - a) w ys) (k + i) 0) (sym n)
      ∙ get_or-append-add (take a w) _ i 0
      ∙ get_or-append ys _ 0 i (omega arith)

-- a row of zeros is zero everywhere
pub zeros_at : (n i : ℕ) → ◌≡◌ {A = ℕ} (get_or (replicate n 0) i 0) 0
zeros_at zero i = refl
zeros_at (suc n) zero = refl
zeros_at (suc n) (suc i) = zeros_at n i

-- a part that was cleared
pub part-cleared : (a e : ℕ) (w : List ℕ) → e ≤ length w → (i : ℕ) → a ≤ i → i < e → get_or (put_mid a (e - a) w (replicate (e - a) 0)) i 0 ≡ 0
part-cleared a e w q i p h =
    let back : i ≡ a + (i - a) = omega arith in
    ap (λ (k : ℕ). get_or (put_mid a (e - a) w (replicate (e - a) 0)) k 0) back
    ∙ part_at a e w (replicate (e - a) 0) (omega arith) q (length-replicate (e - a) 0) (i - a) (omega arith)
    ∙ zeros_at (e - a) (i - a)
