-- How many choices the pruned walk visits. Assumes nothing.
use Prim.Native.Nat.{ℕ, zero, suc, ◌+◌, ◌*◌, ◌≤◌}
use Rattle.std.specs.Prelude.{◌≡◌, List, [], ◌∷◌, ◌++◌, Bool, leb}
use Rattle.std.proofs.Math.Path.{refl, ap}
use Rattle.std.proofs.Common.{◌∙◌}
use Rattle.std.proofs.Math.Bool.{true, false, cond}
use native.Mathlib.Omega.{arith}
use Rattle.std.proofs.Math.Nat.{mul-add}

abbrev snoc : List ℕ → ℕ → List ℕ
snoc p a = p ++ (a ∷ [])

-- the choices visited among those that begin with p, which is fine, and take n more of the len places from lo: a bad place
-- costs one visit
unfoldable pub visits_among : (List ℕ → Bool) → List ℕ → ℕ → ℕ → ℕ → ℕ
visits_among ok p zero len lo = 1
visits_among ok p (suc k) zero lo = 0
visits_among ok p (suc k) (suc l) lo =
    let on = visits_among ok (p ++ (lo ∷ [])) k l (suc lo) in
    let rest = visits_among ok p (suc k) l (suc lo) in
    cond (ok (p ++ (lo ∷ []))) on (cond (leb k l) 1 0) + rest

-- those of them that pass
unfoldable pub goods : (List ℕ → Bool) → List ℕ → ℕ → ℕ → ℕ → ℕ
goods ok p zero len lo = 1
goods ok p (suc k) zero lo = 0
goods ok p (suc k) (suc l) lo =
    let on = goods ok (p ++ (lo ∷ [])) k l (suc lo) in
    let rest = goods ok p (suc k) l (suc lo) in
    cond (ok (p ++ (lo ∷ []))) on 0 + rest

-- of 1 to k places, and of 0 to k - 1
unfoldable pub tot : (List ℕ → Bool) → List ℕ → ℕ → ℕ → ℕ → ℕ
tot ok p zero len lo = 0
tot ok p (suc k) len lo = goods ok p (suc k) len lo + tot ok p k len lo

low : (List ℕ → Bool) → List ℕ → ℕ → ℕ → ℕ → ℕ
low ok p zero len lo = 0
low ok p (suc k) len lo = goods ok p k len lo + low ok p k len lo

module _ (ok : List ℕ → Bool) where
  low_is : (p : List ℕ) (k len lo : ℕ) → low ok p (suc k) len lo ≡ 1 + tot ok p k len lo
  unfolding low tot goods
  low_is p zero len lo = refl
  low_is p (suc k) len lo = let h : low ok p (suc k) len lo ≡ 1 + tot ok p k len lo = low_is p k len lo in omega arith

  tot_yes : (p : List ℕ) (k l lo : ℕ) → ok (snoc p lo) ≡ true → tot ok p k (suc l) lo ≡ low ok (snoc p lo) k l (suc lo) + tot ok p k l (suc lo)
  unfolding low tot goods
  tot_yes p zero l lo e = refl
  tot_yes p (suc k) l lo e =
      let h : tot ok p k (suc l) lo ≡ low ok (snoc p lo) k l (suc lo) + tot ok p k l (suc lo) = tot_yes p k l lo e in
      rw e (omega arith)

  tot_no : (p : List ℕ) (k l lo : ℕ) → ok (snoc p lo) ≡ false → tot ok p k (suc l) lo ≡ tot ok p k l (suc lo)
  unfolding tot goods
  tot_no p zero l lo e = refl
  tot_no p (suc k) l lo e =
      let h : tot ok p k (suc l) lo ≡ tot ok p k l (suc lo) = tot_no p k l lo e in
      rw e (omega arith)

  -- each choice of fewer places that passes pays for at most M visits
  pub few_visits : (M : ℕ) (p : List ℕ) (k len lo : ℕ) → len ≤ M → visits_among ok p (suc k) len lo ≤ goods ok p (suc k) len lo + M * tot ok p k len lo + len
  unfolding visits_among goods tot
  few_visits M p k zero lo h = omega arith
  few_visits M p zero (suc l) lo h = go (few_visits M p zero l (suc lo) (omega arith)) (ok (snoc p lo)) refl
    where
      go : visits_among ok p (suc zero) l (suc lo) ≤ goods ok p (suc zero) l (suc lo) + M * tot ok p zero l (suc lo) + l → (b : Bool) → ok (snoc p lo) ≡ b
          → cond b 1 (cond (leb zero l) 1 0) + visits_among ok p (suc zero) l (suc lo) ≤ (cond b 1 0 + goods ok p (suc zero) l (suc lo)) + M * tot ok p zero (suc l) lo + suc l
      go ih true e = omega arith
      go ih false e = bad (leb zero l)
        where
          bad : (t : Bool) → cond t 1 0 + visits_among ok p (suc zero) l (suc lo) ≤ (0 + goods ok p (suc zero) l (suc lo)) + M * tot ok p zero (suc l) lo + suc l
          bad true = omega arith
          bad false = omega arith
  few_visits M p (suc k) (suc l) lo h = go (few_visits M (snoc p lo) k l (suc lo) (omega arith)) (few_visits M p (suc k) l (suc lo) (omega arith)) (ok (snoc p lo)) refl
    where
      go : visits_among ok (snoc p lo) (suc k) l (suc lo) ≤ goods ok (snoc p lo) (suc k) l (suc lo) + M * tot ok (snoc p lo) k l (suc lo) + l
          → visits_among ok p (suc (suc k)) l (suc lo) ≤ goods ok p (suc (suc k)) l (suc lo) + M * tot ok p (suc k) l (suc lo) + l
          → (b : Bool) → ok (snoc p lo) ≡ b
          → cond b (visits_among ok (snoc p lo) (suc k) l (suc lo)) (cond (leb (suc k) l) 1 0) + visits_among ok p (suc (suc k)) l (suc lo) ≤ (cond b (goods ok (snoc p lo) (suc k) l (suc lo)) 0 + goods ok p (suc (suc k)) l (suc lo)) + M * tot ok p (suc k) (suc l) lo + suc l
      go i j true e =
          let t : tot ok p (suc k) (suc l) lo ≡ (1 + tot ok (snoc p lo) k l (suc lo)) + tot ok p (suc k) l (suc lo) = tot_yes p (suc k) l lo e ∙ ap (λ (z : ℕ). z + tot ok p (suc k) l (suc lo)) (low_is (snoc p lo) k l (suc lo)) in
          let d : M * tot ok p (suc k) (suc l) lo ≡ M * 1 + M * tot ok (snoc p lo) k l (suc lo) + M * tot ok p (suc k) l (suc lo) =
          ap (λ (z : ℕ). M * z) t ∙ mul-add M (1 + tot ok (snoc p lo) k l (suc lo)) (tot ok p (suc k) l (suc lo)) ∙ ap (λ (z : ℕ). z + M * tot ok p (suc k) l (suc lo)) (mul-add M 1 (tot ok (snoc p lo) k l (suc lo))) in
          omega arith
      go i j false e =
          let t : M * tot ok p (suc k) (suc l) lo ≡ M * tot ok p (suc k) l (suc lo) = ap (λ (z : ℕ). M * z) (tot_no p (suc k) l lo e) in
          bad t (leb (suc k) l)
        where
          bad : M * tot ok p (suc k) (suc l) lo ≡ M * tot ok p (suc k) l (suc lo) → (b : Bool) → cond b 1 0 + visits_among ok p (suc (suc k)) l (suc lo) ≤ (0 + goods ok p (suc (suc k)) l (suc lo)) + M * tot ok p (suc k) (suc l) lo + suc l
          bad t true = omega arith
          bad t false = omega arith
