-- Pairs placed one after the other, and what stands then. Assumes nothing.
use Rattle.std.specs.Prelude.{ℕ, zero, suc, ◌+◌, ◌≤◌, ◌<◌, ◌≡◌, refl, List, ◌∷◌, map, length, get_or, set}
use Rattle.std.proofs.Common.{ap, ◌∙◌, ⊎_elim, arith, length-set, get_or-set_same, get_or-set_other}
use Rattle.std.proofs.Math.Seq.{slice, slice_empty, slice-cons}
use Rattle.lists.specs.Tests.{same?}
use Rattle.lists.specs.Lists.{up_from}
use Rattle.lists.specs.FrameLaws.{Framed, framed_none, framed_then, framed_set}
use Rattle.protein_groups_spec.specs.ProteinGroups.{Pair, pair_at}
use Rattle.protein_groups_spec.specs.PackedGroups.{packed_seen}
use Rattle.protein_groups_place.specs.Placing.{PairsLaid}

module _ (pairs flags : List ℕ) (a n : ℕ) where
  pub laid_none : (w : List ℕ) → PairsLaid pairs flags a n 0 w w
  laid_none w = record { peptides = λ j h. absurd (omega arith); shown = λ j h. absurd (omega arith); rest = framed_none a (a + n + n) w; same_length = refl }

  pub laid_more : (i : ℕ) (old w : List ℕ) → i < n → a + n + n ≤ length old → PairsLaid pairs flags a n i old w
      → PairsLaid pairs flags a n (i + 1) old (set (set w (a + i) (pair_at pairs i).peptide) (a + n + i) (packed_seen flags (pair_at pairs i)))
  laid_more i old w h fits l = record { peptides = ps; shown = ss; rest = rs; same_length = simp length-set l.same_length }
    where
      p : ℕ
      p = (pair_at pairs i).peptide

      s : ℕ
      s = packed_seen flags (pair_at pairs i)

      x : List ℕ
      x = set w (a + i) p

      ps : (j : ℕ) → j < i + 1 → get_or (set x (a + n + i) s) (a + j) 0 ≡ (pair_at pairs j).peptide
      ps j m =
          get_or-set_other x (a + n + i) (a + j) s 0 (λ z. omega arith)
          ∙ ⊎_elim (λ (q : j ≡ i). rw q (get_or-set_same w (a + i) p 0 (omega (arith, l.same_length))))
          (λ (q : j ≡ i → ⊥). get_or-set_other w (a + i) (a + j) p 0 (λ z. q (omega arith)) ∙ l.peptides j (omega (arith, q))) (same? j i)

      ss : (j : ℕ) → j < i + 1 → get_or (set x (a + n + i) s) (a + n + j) 0 ≡ packed_seen flags (pair_at pairs j)
      ss j m =
          ⊎_elim (λ (q : j ≡ i). rw q (get_or-set_same x (a + n + i) s 0 (rw length-set (omega (arith, l.same_length)))))
          (λ (q : j ≡ i → ⊥). get_or-set_other x (a + n + i) (a + n + j) s 0 (λ z. q (omega arith)) ∙ get_or-set_other w (a + i) (a + n + j) p 0 (λ z. omega arith) ∙ l.shown j (omega (arith, q))) (same? j i)

      rs : Framed a (a + n + n) old (set x (a + n + i) s)
      rs =
          framed_then a (a + n + n) old x (set x (a + n + i) s)
          (framed_then a (a + n + n) old w x l.rest (framed_set a (a + n + n) (a + i) p w (omega arith) (omega arith)))
          (framed_set a (a + n + n) (a + n + i) s x (omega arith) (omega arith))

-- a stretch by its numbers
pub slice_is : {A : Type 0} (f : A → ℕ) (g : ℕ → A) (w : List ℕ) (a j n : ℕ) → a + n ≤ length w → ((i : ℕ) → i < n → get_or w (a + i) 0 ≡ f (g (j + i)))
    → slice a (a + n) w ≡ map f (map g (up_from j n))
slice_is f g w a j zero h e = let z : a + 0 ≡ a = omega arith in rw z (slice_empty a w)
slice_is f g w a j (suc n) h e =
    let x : a + suc n ≡ suc a + n = omega arith in
    let u : a + 0 ≡ a = omega arith in
    let v : j + 0 ≡ j = omega arith in
    let first : get_or w a 0 ≡ f (g j) = rw (u, v) at (e 0 (omega arith)) in
    let next : (i : ℕ) → i < n → get_or w (suc a + i) 0 ≡ f (g (suc j + i)) =
    λ i l. let s : a + suc i ≡ suc a + i = omega arith in let t : j + suc i ≡ suc j + i = omega arith in rw (s, t) at (e (suc i) (omega arith)) in
    slice-cons a (a + suc n) w 0 (omega arith) h
    ∙ ap (λ (k : ℕ). get_or w a 0 ∷ slice (suc a) k w) x
    ∙ ap (λ (k : ℕ). k ∷ slice (suc a) (suc a + n) w) first
    ∙ ap (λ (l : List ℕ). f (g j) ∷ l) (slice_is f g w (suc a) (suc j) n (omega arith) next)

module _ (pairs flags : List ℕ) (a n : ℕ) (old w : List ℕ) (fits : a + n + n ≤ length old) (l : PairsLaid pairs flags a n n old w) where
  pub laid_peptides : slice a (a + n) w ≡ map (λ (q : Pair). q.peptide) (map (pair_at pairs) (up_from 0 n))
  laid_peptides = slice_is (λ (q : Pair). q.peptide) (pair_at pairs) w a 0 n (omega (arith, l.same_length)) (λ i h. let z : 0 + i ≡ i = omega arith in rw z (l.peptides i h))

  pub laid_shown : slice (a + n) (a + n + n) w ≡ map (packed_seen flags) (map (pair_at pairs) (up_from 0 n))
  laid_shown = slice_is (packed_seen flags) (pair_at pairs) w (a + n) 0 n (omega (arith, l.same_length)) (λ i h. let z : 0 + i ≡ i = omega arith in rw z (l.shown i h))
