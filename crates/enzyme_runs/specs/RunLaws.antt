-- What the places at which runs start say of texts. Assumes nothing.
use Rattle.std.specs.Prelude.{ℕ, zero, suc, ◌+◌, ◌≤◌, ◌<◌, ◌≡◌, true, false, ◌⊎◌, List, get_or}
use Rattle.std.proofs.Common.{sym, ap, ◌∙◌, inl, inr, arith}
use Rattle.lists.specs.Tests.{below?, truth?, clash}
use Rattle.lists.specs.Lists.{same}
use Rattle.lists.specs.SameLaws.{same_refl, same-eq}
use Rattle.enzyme_rows.specs.Steps.{StandTogether, RunStarts}

pub alike? : (t u : List ℕ) → (t ≡ u) ⊎ (t ≡ u → ⊥)
alike? t u = go (truth? (same t u))
  where
    go : (same t u ≡ true) ⊎ (same t u ≡ false) → (t ≡ u) ⊎ (t ≡ u → ⊥)
    go (inl e) = inl (same-eq t u e)
    go (inr e) = inr (λ (q : t ≡ u). clash (rw q (same_refl u)) e)

module _ (text : ℕ → List ℕ) (w r : List ℕ) (g : ℕ) (ln : StandTogether text w g) (rn : RunStarts text w r g) where
  -- a run starts no later than any of its places, with the same text
  pub run-start : (p : ℕ) → p < g → (get_or r p 0 ≤ p) × (text (get_or w (get_or r p 0) 0) ≡ text (get_or w p 0))
  run-start zero h = let e = rn.start h in (omega arith, ap (λ (z : ℕ). text (get_or w z 0)) e)
  run-start (suc p) h = go (alike? (text (get_or w p 0)) (text (get_or w (suc p) 0))) (run-start p (omega arith))
    where
      go : (text (get_or w p 0) ≡ text (get_or w (suc p) 0)) ⊎ (text (get_or w p 0) ≡ text (get_or w (suc p) 0) → ⊥) → (get_or r p 0 ≤ p) × (text (get_or w (get_or r p 0) 0) ≡ text (get_or w p 0))
          → (get_or r (suc p) 0 ≤ suc p) × (text (get_or w (get_or r (suc p) 0) 0) ≡ text (get_or w (suc p) 0))
      go (inl e) ih = let f = rn.same p (suc p) (omega arith) h e in (omega (arith, ih.0), ap (λ (z : ℕ). text (get_or w z 0)) f ∙ ih.1 ∙ e)
      go (inr e) ih = let f = rn.differ p (suc p) (omega arith) h e in (omega arith, ap (λ (z : ℕ). text (get_or w z 0)) f)

  -- the same start exactly for the same text
  pub runs_back : (p q : ℕ) → p < g → q < g → get_or r p 0 ≡ get_or r q 0 → text (get_or w p 0) ≡ text (get_or w q 0)
  runs_back p q h k e = sym (run-start p h).1 ∙ ap (λ (z : ℕ). text (get_or w z 0)) e ∙ (run-start q k).1

  later_same : (p q : ℕ) → p < q → q < g → text (get_or w p 0) ≡ text (get_or w q 0) → get_or r p 0 ≡ get_or r q 0
  later_same p zero h k e = absurd (omega arith)
  later_same p (suc q) h k e = go (below? p q) (later_same p q)
    where
      go : (p < q) ⊎ (q ≤ p) → (p < q → q < g → text (get_or w p 0) ≡ text (get_or w q 0) → get_or r p 0 ≡ get_or r q 0) → get_or r p 0 ≡ get_or r (suc q) 0
      go (inl l) ih =
          let b = ln.between p q (suc q) l (omega arith) k e in
          ih l (omega arith) b ∙ sym (rn.same q (suc q) (omega arith) k (sym b ∙ e))
      go (inr l) ih = let z : suc q ≡ p + 1 = omega arith in sym (rn.same p (suc q) z k e)

  pub runs_same : (p q : ℕ) → p < g → q < g → text (get_or w p 0) ≡ text (get_or w q 0) → get_or r p 0 ≡ get_or r q 0
  runs_same p q h k e = go (below? p q) (below? q p)
    where
      go : (p < q) ⊎ (q ≤ p) → (q < p) ⊎ (p ≤ q) → get_or r p 0 ≡ get_or r q 0
      go (inl l) y = later_same p q l k e
      go (inr l) (inl m) = sym (later_same q p m h (sym e))
      go (inr l) (inr m) = let z : p ≡ q = omega arith in ap (λ (n : ℕ). get_or r n 0) z

  -- the first of a run is the least of it
  pub first-least : (p q : ℕ) → p < g → q < g → get_or r p 0 ≡ p → get_or w q 0 < get_or w p 0 → text (get_or w q 0) ≡ text (get_or w p 0) → ⊥
  first-least p q h k s l e = go (below? p q)
    where
      go : (p < q) ⊎ (q ≤ p) → ⊥
      go (inl m) = let b = ln.rises p q m k (sym e) in omega arith
      go (inr m) =
          let a = (run-start q k).0 in
          let b = runs_same q p k h e in
          let z : q ≡ p = omega arith in
          let v : get_or w q 0 ≡ get_or w p 0 = ap (λ (n : ℕ). get_or w n 0) z in
          omega arith

  pub first_later : (p : ℕ) → p < g → (get_or r p 0 ≡ p → ⊥) → ((q : ℕ) × (q < g) × (get_or w q 0 < get_or w p 0) × (text (get_or w q 0) ≡ text (get_or w p 0)))
  first_later p h s =
      let a = run-start p h in
      let b = a.0 in
      let l : get_or r p 0 < p = less (below? (get_or r p 0) p) b in
      (get_or r p 0, omega arith, ln.rises (get_or r p 0) p l h a.1, a.1)
    where
      less : (get_or r p 0 < p) ⊎ (p ≤ get_or r p 0) → get_or r p 0 ≤ p → get_or r p 0 < p
      less (inl l) b = l
      less (inr l) b = absurd (s (omega arith))

  -- of two in a run both are seen to be in one: by their own start, or by that of the next
  pub run_later : (p q : ℕ) → p < g → q < p → text (get_or w q 0) ≡ text (get_or w p 0) → get_or r p 0 ≡ p → ⊥
  run_later p q h l e s = let a = (run-start q (omega arith)).0 in let b = runs_same q p (omega arith) h e in omega arith

  pub run_sooner : (p q : ℕ) → q < g → p < q → text (get_or w p 0) ≡ text (get_or w q 0) → get_or r (p + 1) 0 ≡ p + 1 → ⊥
  run_sooner p q k l e s = go (below? (p + 1) q)
    where
      next : text (get_or w p 0) ≡ text (get_or w (p + 1) 0) → p + 1 < g → ⊥
      next t h = let a = (run-start p (omega arith)).0 in let b = rn.same p (p + 1) (omega arith) h t in omega arith

      go : (p + 1 < q) ⊎ (q ≤ p + 1) → ⊥
      go (inl m) = next (ln.between p (p + 1) q (omega arith) m k e) (omega arith)
      go (inr m) = let z : q ≡ p + 1 = omega arith in next (rw z at e) (omega arith)
