-- The numbers of the stretches that are not empty, in a lent slice. Assumes nothing.
use Rattle.std.specs.Prelude.{◌≡◌, Bool, true, false, List, ◌∷◌, ◌++◌, ℕ, suc, ◌+◌, ◌-◌, ◌≤◌, ◌<◌, ltb, length, get_or, set}
use Rattle.std.proofs.Common.{sym, ◌∙◌, append-nil, add-one, arith}
use Rattle.std.proofs.Math.Seq.{slice, slice_empty, append_snoc}
use Rattle.lists.specs.Lists.{up_from, keep}
use Rattle.lists.specs.FrameLaws.{Framed, framed_none, framed_then, framed_set}
use Rattle.sorting_spec.specs.PartLaws.{slice_set}

-- the i-th boundary, which stands from e on
abbrev pub bound : List ℕ → ℕ → ℕ → ℕ
bound w e i = get_or w (e + i) 0

-- whether stretch i is not empty
abbrev pub has_text : List ℕ → ℕ → ℕ → Bool
has_text w e i = ltb (bound w e i) (bound w e (i + 1))

-- THE RESULT: the numbers of those of m stretches that are not empty from o on, k of them
pub record Takers (w₀ w : List ℕ) (e m o k : ℕ) : Type 0 where
  pub few : k ≤ m
  pub order : slice o (o + k) w ≡ keep (has_text w₀ e) (up_from 0 m)
  pub rest : Framed o (o + m) w₀ w

-- those below i
pub record TakersTo (w₀ w : List ℕ) (e m o i k : ℕ) : Type 0 where
  pub few : k ≤ i
  pub order : slice o (o + k) w ++ keep (has_text w₀ e) (up_from i (m - i)) ≡ keep (has_text w₀ e) (up_from 0 m)
  pub rest : Framed o (o + m) w₀ w

pub takers_none : (w : List ℕ) (e m o : ℕ) → TakersTo w w e m o 0 0
takers_none w e m o = record {
  few = omega arith;
  order = let u : o + 0 ≡ o = omega arith in let v : m - 0 ≡ m = omega arith in rw (u, v, slice_empty o w);
  rest = framed_none o (o + m) w;
}

next_up : (i m : ℕ) → i < m → up_from i (m - i) ≡ i ∷ up_from (i + 1) (m - (i + 1))
next_up i m h = let u : m - i ≡ suc (m - (i + 1)) = omega arith in rw (u, add-one i)

pub takers_skip : (w₀ w : List ℕ) (e m o i k : ℕ) → i < m → has_text w₀ e i ≡ false → TakersTo w₀ w e m o i k → TakersTo w₀ w e m o (i + 1) k
takers_skip w₀ w e m o i k h f p = record {
  few = omega (arith, p.few);
  order = rw (next_up i m h, f) at p.order;
  rest = p.rest;
}

pub takers_more : (w₀ w : List ℕ) (e m o i k : ℕ) → i < m → o + m ≤ length w → has_text w₀ e i ≡ true → TakersTo w₀ w e m o i k → TakersTo w₀ (set w (o + k) i) e m o (i + 1) (k + 1)
takers_more w₀ w e m o i k h len f p =
    let few = p.few in
    record {
      few = omega arith;
      order = order-go;
      rest = framed_then o (o + m) w₀ w (set w (o + k) i) p.rest (framed_set o (o + m) (o + k) i w (omega arith) (omega arith));
    }
  where
    order-go : slice o (o + (k + 1)) (set w (o + k) i) ++ keep (has_text w₀ e) (up_from (i + 1) (m - (i + 1))) ≡ keep (has_text w₀ e) (up_from 0 m)
    order-go =
        let u : o + (k + 1) ≡ suc (o + k) = omega arith in
        rw (u, slice_set o (o + k) i w (omega arith) (omega (arith, p.few)))
        (append_snoc (slice o (o + k) w) i (keep (has_text w₀ e) (up_from (i + 1) (m - (i + 1)))) ∙ (rw (next_up i m h, f) at p.order))

pub takers_end : (w₀ w : List ℕ) (e m o i k : ℕ) → i ≡ m → TakersTo w₀ w e m o i k → Takers w₀ w e m o k
takers_end w₀ w e m o i k z p = record {
  few = omega (arith, p.few);
  order = let u : m - i ≡ 0 = omega arith in sym (append-nil (slice o (o + k) w)) ∙ (rw u at p.order);
  rest = p.rest;
}
