-- Numbers copied within a slice. Assumes nothing.
use Rattle.std.specs.Prelude.{ℕ, ◌+◌, ◌≤◌, ◌<◌, ◌≡◌, refl, ◌⊎◌, List, length, get_or, set}
use Rattle.std.proofs.Common.{sym, ◌∙◌, inl, inr, ⊎_elim, arith, length-set, get_or-set_same, get_or-set_other, ext_get_or}
use Rattle.std.proofs.Math.Seq.{slice, length-slice}
use Rattle.lists.specs.Tests.{below?, same?}
use Rattle.lists.specs.FrameLaws.{Framed, framed_none, framed_then, framed_within, framed_set}
use Rattle.sorting_spec.specs.PartLaws.{at_slice}

-- w is v with n numbers from `from` on copied to `to`
pub record NumbersCopied (v : List ℕ) (from to n : ℕ) (w : List ℕ) : Type 0 where
  pub as_long : length w ≡ length v
  pub copied : (i : ℕ) → i < n → get_or w (to + i) 0 ≡ get_or v (from + i) 0
  pub rest : Framed to (to + n) v w

pub copied-zero : {v : List ℕ} {from to : ℕ} → NumbersCopied v from to 0 v
copied-zero {v} {from} {to} = record { as_long = refl; copied = λ i h. absurd (omega arith); rest = framed_none to (to + 0) v }

-- a turn
pub copied_next : {v : List ℕ} {from to n : ℕ} (all : ℕ) {w : List ℕ} → n < all → to + all ≤ length v → (from + all ≤ to) ⊎ (to + all ≤ from) → NumbersCopied v from to n w
    → NumbersCopied v from to (n + 1) (set w (to + n) (get_or w (from + n) 0))
copied_next {v} {from} {to} {n} all {w} h room apart c = record {
  as_long = length-set w (to + n) (get_or w (from + n) 0) ∙ c.as_long;
  copied = λ i k. at i k (same? i n);
  rest =
      framed_then to (to + (n + 1)) v w (set w (to + n) (get_or w (from + n) 0)) (framed_within to to (to + n) (to + (n + 1)) v w (omega arith) (omega arith) c.rest)
      (framed_set to (to + (n + 1)) (to + n) (get_or w (from + n) 0) w (omega arith) (omega arith));
}
  where
    read : (get_or w (from + n) 0) ≡ get_or v (from + n) 0
    read = ⊎_elim (λ (p : from + all ≤ to). c.rest (from + n) (inl (omega arith))) (λ (p : to + all ≤ from). c.rest (from + n) (inr (omega arith))) apart

    at : (i : ℕ) → i < n + 1 → (i ≡ n) ⊎ (i ≡ n → ⊥) → get_or (set w (to + n) (get_or w (from + n) 0)) (to + i) 0 ≡ get_or v (from + i) 0
    at i k (inl e) = rw e (get_or-set_same w (to + n) (get_or w (from + n) 0) 0 (omega (arith, c.as_long)) ∙ read)
    at i k (inr e) = get_or-set_other w (to + n) (to + i) (get_or w (from + n) 0) 0 (λ (z : to + i ≡ to + n). e (omega arith)) ∙ c.copied i (less (below? i n))
      where
        less : (i < n) ⊎ (n ≤ i) → i < n
        less (inl p) = p
        less (inr p) = absurd (e (omega arith))

-- the part where they stand
pub copied-part : (v : List ℕ) (from to n : ℕ) (w : List ℕ) → from + n ≤ length v → to + n ≤ length v → NumbersCopied v from to n w → slice to (to + n) w ≡ slice from (from + n) v
copied-part v from to n w h k c =
    ext_get_or 0 (slice to (to + n) w) (slice from (from + n) v) (long ∙ sym (length-slice from (from + n) v h ∙ omega arith))
    (λ i q.
    let r : i < n = omega (arith, long) in
    at_slice to (to + n) w i (omega arith) ∙ c.copied i r ∙ sym (at_slice from (from + n) v i (omega arith)))
  where
    long : length (slice to (to + n) w) ≡ n
    long = length-slice to (to + n) w (omega (arith, c.as_long)) ∙ omega arith
