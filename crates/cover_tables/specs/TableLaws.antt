-- Lists in one list of numbers w: counts that are lowered by what a stretch names, and for each of n things a stretch. Assumes nothing.
use Rattle.std.specs.Prelude.{◌≡◌, refl, Bool, true, false, cond, List, ℕ, suc, ◌+◌, ◌-◌, ◌≤◌, ◌<◌, eqb, length, get_or, set}
use Rattle.std.proofs.Common.{sym, ap, ◌∙◌, subst, inr, add-one, arith, length-set, get_or-set_same, get_or-set_other, eqb-true, eq-eqb}
use Rattle.std.proofs.Math.Seq.{slice, slice_empty, slice-cons, length-slice}
use Rattle.std.proofs.lemmas.Bool.{eqb-false}
use Rattle.lists.specs.Lists.{bit, times}
use Rattle.lists.specs.InLaws.{in-get_or, in_times}
use Rattle.lists.specs.FrameLaws.{Framed, framed_none, framed_then, framed_set}
use Rattle.sorting_spec.specs.PartLaws.{at_slice, slice-same}

-- ---- how often a number stands in a stretch

pub times-next : (w : List ℕ) (p e y : ℕ) → p < e → e ≤ length w → times y (slice p e w) ≡ bit (eqb (get_or w p 0) y) + times y (slice (p + 1) e w)
times-next w p e y h l = rw (add-one p, slice-cons p e w 0 h l) (go (eqb (get_or w p 0) y))
  where
    go : (t : Bool) → cond t (suc (times y (slice (suc p) e w))) (times y (slice (suc p) e w)) ≡ bit t + times y (slice (suc p) e w)
    go true = omega arith
    go false = omega arith

pub times_end : (w : List ℕ) (p e y : ℕ) → p ≡ e → times y (slice p e w) ≡ 0
times_end w p e y h = rw (h, slice_empty e w)

pub times-at : (w : List ℕ) (a p e : ℕ) → a ≤ p → p < e → e ≤ length w → 0 < times (get_or w p 0) (slice a e w)
times-at w a p e h k l =
    let z : a + (p - a) ≡ p = omega arith in
    let here : get_or (slice a e w) (p - a) 0 ≡ get_or w p 0 = at_slice a e w (p - a) (omega arith) ∙ ap (λ (i : ℕ). get_or w i 0) z in
    in_times (get_or w p 0) (slice a e w) (rw here at (in-get_or 0 (slice a e w) (p - a) (omega (arith, length-slice a e w l))))

-- ---- lowering the counts under n by the entries of w₀ from a up to e

module _ (n a e : ℕ) (w₀ : List ℕ) where
  -- what a lowering needs: the entries stand behind the counts, name counts, and no count is lower than the times that it is named
  pub record Lowerable : Type 0 where
    pub behind : n ≤ a
    pub order : a ≤ e
    pub fits : e ≤ length w₀
    pub names : (p : ℕ) → a ≤ p → p < e → get_or w₀ p 0 < n
    pub enough : (g : ℕ) → g < n → times g (slice a e w₀) ≤ get_or w₀ g 0

  pub record Lowered (w : List ℕ) (p : ℕ) : Type 0 where
    pub low : a ≤ p
    pub high : p ≤ e
    pub size : length w ≡ length w₀
    pub counts : (g : ℕ) → g < n → get_or w g 0 + times g (slice a e w₀) ≡ get_or w₀ g 0 + times g (slice p e w₀)
    pub rest : Framed 0 n w₀ w

  pub lowered_start : Lowerable → Lowered w₀ a
  lowered_start h = record { low = omega arith; high = h.order; size = refl; counts = λ g b. refl; rest = framed_none 0 n w₀ }

  module _ (h : Lowerable) (w : List ℕ) (p : ℕ) (r : Lowered w p) (more : p < e) where
    here : get_or w p 0 ≡ get_or w₀ p 0
    here = r.rest p (inr (omega (arith, h.behind, r.low)))

    pub lowered_name : get_or w p 0 < n
    lowered_name = rw here (h.names p r.low more)

    pub lowered_inside : get_or w p 0 < length w
    lowered_inside = omega (arith, lowered_name, h.behind, h.order, h.fits, r.size)

    pub lowered_some : 0 < get_or w (get_or w p 0) 0
    lowered_some =
        let g : ℕ = get_or w p 0 in
        omega (arith, r.counts g lowered_name, h.enough g lowered_name, times-next w₀ p e g more h.fits, ap bit (eq-eqb (get_or w₀ p 0) g (sym here)))

    pub lowered_step : Lowered (set w (get_or w p 0) (get_or w (get_or w p 0) 0 - 1)) (p + 1)
    lowered_step = record {
      low = omega (arith, r.low);
      high = omega arith;
      size = simp length-set r.size;
      counts = λ g b. one g b (eqb (get_or w₀ p 0) g) refl;
      rest = framed_then 0 n w₀ w (set w (get_or w p 0) (get_or w (get_or w p 0) 0 - 1)) r.rest (framed_set 0 n (get_or w p 0) (get_or w (get_or w p 0) 0 - 1) w (omega arith) lowered_name);
    }
      where
        one : (g : ℕ) → g < n → (t : Bool) → eqb (get_or w₀ p 0) g ≡ t
            → get_or (set w (get_or w p 0) (get_or w (get_or w p 0) 0 - 1)) g 0 + times g (slice a e w₀) ≡ get_or w₀ g 0 + times g (slice (p + 1) e w₀)
        one g b true i =
            let q : get_or w p 0 ≡ g = here ∙ eqb-true (get_or w₀ p 0) g i in
            omega (
              arith,
              r.counts g b,
              times-next w₀ p e g more h.fits,
              ap bit i,
              lowered_some,
              ap (λ (x : ℕ). get_or w x 0) q,
              subst (λ (x : ℕ). get_or (set w (get_or w p 0) (get_or w (get_or w p 0) 0 - 1)) x 0 ≡ get_or w (get_or w p 0) 0 - 1) q (get_or-set_same w (get_or w p 0) (get_or w (get_or w p 0) 0 - 1) 0 lowered_inside),
            )
        one g b false i =
            omega (
              arith,
              r.counts g b,
              times-next w₀ p e g more h.fits,
              ap bit i,
              get_or-set_other w (get_or w p 0) g (get_or w (get_or w p 0) 0 - 1) 0 (λ q. eqb-false (get_or w₀ p 0) g i (sym here ∙ sym q)),
            )

  pub lowered_end : (w : List ℕ) (p : ℕ) → Lowered w p → e ≤ p → (g : ℕ) → g < n → get_or w g 0 + times g (slice a e w₀) ≡ get_or w₀ g 0
  lowered_end w p r k g b = omega (arith, r.counts g b, times_end w₀ p e g (omega (arith, r.high)))

-- ---- what the walk only reads

-- for each x under n a list: its boundaries stand from place o on, it has sz x entries, y stands in it c x y times; all of it from place s on
pub record Lists (s o n : ℕ) (sz : ℕ → ℕ) (c : ℕ → ℕ → ℕ) (w : List ℕ) : Type 0 where
  pub above : s ≤ o
  pub fits : o + n < length w
  pub starts : (x : ℕ) → x < n → s ≤ get_or w (o + x) 0
  pub sizes : (x : ℕ) → x < n → get_or w (o + x + 1) 0 ≡ get_or w (o + x) 0 + sz x
  pub ends : (x : ℕ) → x < n → get_or w (o + x + 1) 0 ≤ length w
  pub lists : (x y : ℕ) → x < n → times y (slice (get_or w (o + x) 0) (get_or w (o + x + 1) 0) w) ≡ c x y

pub lists-same : (s o n : ℕ) (sz : ℕ → ℕ) (c : ℕ → ℕ → ℕ) (w v : List ℕ) → length v ≡ length w → Framed 0 s w v → Lists s o n sz c w → Lists s o n sz c v
lists-same s o n sz c w v l h r = record {
  above = r.above;
  fits = omega (arith, r.fits);
  starts = λ x b. rw (at x) (r.starts x b);
  sizes = λ x b. rw (at x, next x) (r.sizes x b);
  ends = λ x b. rw (next x) (omega (arith, r.ends x b));
  lists = λ x y b. rw (at x, next x, slice-same (get_or w (o + x) 0) (get_or w (o + x + 1) 0) v w (omega (arith, r.ends x b)) (r.ends x b) (λ i p q. h i (inr (omega (arith, r.starts x b))))) (r.lists x y b);
}
  where
    at : (x : ℕ) → get_or v (o + x) 0 ≡ get_or w (o + x) 0
    at x = h (o + x) (inr (omega (arith, r.above)))

    next : (x : ℕ) → get_or v (o + x + 1) 0 ≡ get_or w (o + x + 1) 0
    next x = h (o + x + 1) (inr (omega (arith, r.above)))
