-- Stretches of a list set to numbers, one after the other. Assumes nothing.
use Rattle.std.specs.Prelude.{◌≡◌, refl, Bool, true, false, List, ℕ, ◌+◌, ◌-◌, ◌≤◌, ◌<◌, eqb, length, get_or, set, replicate}
use Rattle.std.proofs.Common.{sym, ap, ◌∙◌, subst, arith, length-set, get_or-set_same, get_or-set_other, eqb-true}
use Rattle.std.proofs.lemmas.List.{length-replicate}
use Rattle.std.proofs.lemmas.Bool.{eqb-false}
use borrow.Rule.Slice.PartMut.{mid_of, put_mid, mid_len, same_len_mid}
use Rattle.lists.specs.FrameLaws.{Framed, framed_none, framed_then, framed_within, framed_set, framed_part, part-cleared}

-- the entries from a up to e of v are f 0, f 1, .., and the others those of w
pub record Puts (f : ℕ → ℕ) (a e : ℕ) (w v : List ℕ) : Type 0 where
  pub size : length v ≡ length w
  pub put : (i : ℕ) → a + i < e → get_or v (a + i) 0 ≡ f i
  pub rest : Framed a e w v

pub puts_none : {f : ℕ → ℕ} {a : ℕ} {w : List ℕ} → Puts f a (a + 0) w w
puts_none {f} {a} {w} = record { size = refl; put = λ i b. absurd (omega arith); rest = framed_none a (a + 0) w }

pub puts_step : {f : ℕ → ℕ} {a x : ℕ} {w v : List ℕ} (i : ℕ) → Puts f a (a + i) w v → a + i < length v → x ≡ f i → Puts f a (a + (i + 1)) w (set v (a + i) x)
puts_step {f} {a} {x} {w} {v} i h b e = record {
  size = length-set v (a + i) x ∙ h.size;
  put = λ j c. one j c (eqb j i) refl;
  rest = framed_then a (a + (i + 1)) w v (set v (a + i) x) (framed_within a a (a + i) (a + (i + 1)) w v (omega arith) (omega arith) h.rest) (framed_set a (a + (i + 1)) (a + i) x v (omega arith) (omega arith));
}
  where
    one : (j : ℕ) → a + j < a + (i + 1) → (t : Bool) → eqb j i ≡ t → get_or (set v (a + i) x) (a + j) 0 ≡ f j
    one j c true q = subst (λ (z : ℕ). get_or (set v (a + i) x) (a + z) 0 ≡ f z) (sym (eqb-true j i q)) (get_or-set_same v (a + i) x 0 b ∙ e)
    one j c false q = get_or-set_other v (a + i) (a + j) x 0 (λ z. eqb-false j i q (omega arith)) ∙ h.put j (omega (arith, eqb-false j i q))

pub puts_low : {f : ℕ → ℕ} {x : ℕ} {w v : List ℕ} (i : ℕ) → Puts f 0 i w v → i < length v → x ≡ f i → Puts f 0 (i + 1) w (set v i x)
puts_low {f} {x} {w} {v} i h b e =
    let z : i ≡ 0 + i = omega arith in
    let p : 0 + (i + 1) ≡ i + 1 = omega arith in
    subst (λ (t : ℕ). Puts f 0 t w (set v i x)) p (subst (λ (t : ℕ). Puts f 0 (0 + (i + 1)) w (set v t x)) (sym z) (puts_step i (rw z at h) (omega arith) e))

-- a part that was lent and cleared
pub puts-clear : (a e : ℕ) (w ys : List ℕ) → a ≤ e → e ≤ length w → ys ≡ replicate (length (mid_of a (e - a) w)) 0 → Puts (λ i. 0) a e w (put_mid a (e - a) w ys)
puts-clear a e w ys p q h =
    let z : ys ≡ replicate (e - a) 0 = h ∙ ap (λ (k : ℕ). replicate k 0) (mid_len a e w q) in
    rw z record {
      size = same_len_mid a (e - a) w (replicate (e - a) 0) (length-replicate (e - a) 0 ∙ sym (mid_len a e w q));
      put = λ i b. part-cleared a e w q (a + i) (omega arith) b;
      rest = framed_part a e w (replicate (e - a) 0) p q (length-replicate (e - a) 0);
    }
