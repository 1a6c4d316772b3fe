-- The pruned walk over the choices of n places costs at most (those that pass) + (places) x (forms of fewer places). Assumes
-- nothing.
use Prim.Native.Nat.{ℕ, zero, suc, ◌+◌, ◌*◌, ◌≤◌}
use Rattle.std.specs.Prelude.{◌≡◌, Bool}
use Rattle.std.proofs.Math.Path.{refl, sym, ap}
use Rattle.std.proofs.Common.{◌∙◌, add-zero, add-suc, suc-add, mul-add}
use mathlib.Core.List.{List, [], ◌∷◌, ◌++◌, map, append-nil, append_assoc}
use Rattle.std.proofs.Math.Bool.{true, false, cond}
use native.Mathlib.Omega.{arith}
use Rattle.std.proofs.Math.ListN.{length, length-append}
use Rattle.lists.specs.KeepLaws.{keep_append}
use Rattle.lists.specs.Lists.{keep}
use Rattle.peptide_choices.specs.BoundLaws.{few_visits, goods, tot, visits_among}
use Rattle.peptide_choices.specs.Choices.{by_size, choices_of}

module _ (ok : List ℕ → Bool) (inherit : (p q : List ℕ) → ok p ≡ false → ok (p ++ q) ≡ false) where
  -- how many of xs pass behind p
  pass : List ℕ → List (List ℕ) → ℕ
  pass p [] = 0
  pass p (c ∷ cs) = cond (ok (p ++ c)) 1 0 + pass p cs

  pass_append : (p : List ℕ) (xs ys : List (List ℕ)) → pass p (xs ++ ys) ≡ pass p xs + pass p ys
  unfolding pass
  pass_append p [] ys = omega arith
  pass_append p (c ∷ xs) ys = let h : pass p (xs ++ ys) ≡ pass p xs + pass p ys = pass_append p xs ys in omega arith

  pass_under : (p : List ℕ) (a : ℕ) (xs : List (List ℕ)) → pass p (map (λ (c : List ℕ). a ∷ c) xs) ≡ pass (p ++ (a ∷ [])) xs
  unfolding pass
  pass_under p a [] = refl
  pass_under p a (c ∷ xs) = rw (← append_assoc p (a ∷ []) c, pass_under p a xs)

  pass_bad : (p : List ℕ) (xs : List (List ℕ)) → ok p ≡ false → pass p xs ≡ 0
  unfolding pass
  pass_bad p [] h = refl
  pass_bad p (c ∷ xs) h = rw (inherit p c h, pass_bad p xs h)

  goods-pass : (p : List ℕ) (n len lo : ℕ) → ok p ≡ true → goods ok p n len lo ≡ pass p (choices_of n len lo)
  unfolding goods choices_of pass
  goods-pass p zero len lo h = rw (append-nil p, h)
  goods-pass p (suc k) zero lo h = refl
  goods-pass p (suc k) (suc l) lo h = go (λ e. goods-pass (p ++ (lo ∷ [])) k l (suc lo) e) (goods-pass p (suc k) l (suc lo) h) (ok (p ++ (lo ∷ []))) refl
    where
      split : pass p (map (λ (c : List ℕ). lo ∷ c) (choices_of k l (suc lo)) ++ choices_of (suc k) l (suc lo)) ≡ pass (p ++ (lo ∷ [])) (choices_of k l (suc lo)) + pass p (choices_of (suc k) l (suc lo))
      split = pass_append p (map (λ (c : List ℕ). lo ∷ c) (choices_of k l (suc lo))) (choices_of (suc k) l (suc lo)) ∙ ap (λ (z : ℕ). z + pass p (choices_of (suc k) l (suc lo))) (pass_under p lo (choices_of k l (suc lo)))

      go : (ok (p ++ (lo ∷ [])) ≡ true → goods ok (p ++ (lo ∷ [])) k l (suc lo) ≡ pass (p ++ (lo ∷ [])) (choices_of k l (suc lo))) → goods ok p (suc k) l (suc lo) ≡ pass p (choices_of (suc k) l (suc lo)) → (b : Bool) → ok (p ++ (lo ∷ [])) ≡ b
          → cond b (goods ok (p ++ (lo ∷ [])) k l (suc lo)) 0 + goods ok p (suc k) l (suc lo) ≡ pass p (map (λ (c : List ℕ). lo ∷ c) (choices_of k l (suc lo)) ++ choices_of (suc k) l (suc lo))
      go i j true e = let x : goods ok (p ++ (lo ∷ [])) k l (suc lo) ≡ pass (p ++ (lo ∷ [])) (choices_of k l (suc lo)) = i e in omega (arith, split)
      go i j false e = omega (arith, split, pass_bad (p ++ (lo ∷ [])) (choices_of k l (suc lo)) e)

  pass-keep : (xs : List (List ℕ)) → pass [] xs ≡ length (keep ok xs)
  unfolding pass
  pass-keep [] = refl
  pass-keep (c ∷ xs) = go (pass-keep xs) (ok c)
    where
      go : pass [] xs ≡ length (keep ok xs) → (b : Bool) → cond b 1 0 + pass [] xs ≡ length (cond b (c ∷ keep ok xs) (keep ok xs))
      go h true = omega arith
      go h false = omega arith

  sizes-snoc : (m n k : ℕ) → by_size m n (suc k) ≡ by_size m n k ++ choices_of (n + k) m 0
  unfolding by_size
  sizes-snoc m n zero = append-nil (choices_of n m 0) ∙ ap (λ (z : ℕ). choices_of z m 0) (sym (add-zero n))
  sizes-snoc m n (suc k) =
      ap (λ (z : List (List ℕ)). choices_of n m 0 ++ z) (sizes-snoc m (suc n) k ∙ ap (λ (z : ℕ). by_size m (suc n) k ++ choices_of z m 0) (suc-add n k ∙ sym (add-suc n k)))
      ∙ sym (append_assoc (choices_of n m 0) (by_size m (suc n) k) (choices_of (n + suc k) m 0))

  tot_is : (m k : ℕ) → ok [] ≡ true → tot ok [] k m 0 ≡ length (keep ok (by_size m 1 k))
  unfolding tot by_size
  tot_is m zero h = refl
  tot_is m (suc k) h =
      let a : tot ok [] k m 0 ≡ length (keep ok (by_size m 1 k)) = tot_is m k h in
      let e : 1 + k ≡ suc k = omega arith in
      let b : goods ok [] (suc k) m 0 ≡ length (keep ok (choices_of (1 + k) m 0)) = goods-pass [] (suc k) m 0 h ∙ pass-keep (choices_of (suc k) m 0) ∙ ap (λ (z : ℕ). length (keep ok (choices_of z m 0))) (sym e) in
      let s : length (keep ok (by_size m 1 (suc k))) ≡ length (keep ok (by_size m 1 k)) + length (keep ok (choices_of (1 + k) m 0)) =
      ap (λ (z : List (List ℕ)). length (keep ok z)) (sizes-snoc m 1 k) ∙ ap length (keep_append ok (by_size m 1 k) (choices_of (1 + k) m 0)) ∙ length-append (keep ok (by_size m 1 k)) (keep ok (choices_of (1 + k) m 0)) in
      omega arith

  -- ---- the theorem: visits at size k + 1, of m places; 1 + those of 1 to k places is the number of forms so far
  pub cost : (m k : ℕ) → ok [] ≡ true → visits_among ok [] (suc k) m 0 ≤ length (keep ok (choices_of (suc k) m 0)) + m * (1 + length (keep ok (by_size m 1 k)))
  cost m k h =
      let a : visits_among ok [] (suc k) m 0 ≤ goods ok [] (suc k) m 0 + m * tot ok [] k m 0 + m = few_visits ok m [] k m 0 (omega arith) in
      let b : goods ok [] (suc k) m 0 ≡ length (keep ok (choices_of (suc k) m 0)) = goods-pass [] (suc k) m 0 h ∙ pass-keep (choices_of (suc k) m 0) in
      let t : m * (1 + length (keep ok (by_size m 1 k))) ≡ m * 1 + m * tot ok [] k m 0 = mul-add m 1 (length (keep ok (by_size m 1 k))) ∙ ap (λ (z : ℕ). m * 1 + m * z) (sym (tot_is m k h)) in
      omega arith
