-- The pruned walk visits as many choices as `visits_among` says, and `goods` counts the choices that pass. Assumes nothing.
use Prim.Native.Nat.{ℕ, zero, suc, ◌+◌}
use Rattle.std.specs.Prelude.{◌≡◌, Bool, true, false, cond, length, leb}
use Rattle.std.proofs.Math.Path.{refl, sym, ap}
use Rattle.std.proofs.Common.{◌∙◌, subst, arith, zero-add, suc-add, add-one, length-append}
use mathlib.Core.List.{List, [], ◌∷◌, ◌++◌, append-nil}
use Rattle.std.proofs.Math.Option.{Option, none, some}
use Rattle.std.proofs.Math.Dec.{leb-zero, leb-suc-zero}
use Rattle.lists.specs.RowLaws.{length_up}
use Rattle.lists.specs.Lists.{up_from}
use Rattle.peptide_choices.specs.BoundLaws.{visits_among}
use Rattle.peptide_choices.specs.OrderLaws.{first_block, first_from, lift, next_block}
use Rattle.peptide_choices.specs.Steps.{first_of, move, past}

-- k choices are visited from o on, and then the walk stands at q
pub data VisitsTo (reach : List ℕ → ℕ) (m : ℕ) : Option (List ℕ) → ℕ → Option (List ℕ) → Type 0 where
  end : {o : Option (List ℕ)} → VisitsTo reach m o zero o
  visit : {c : List ℕ} {k : ℕ} {q : Option (List ℕ)} → VisitsTo reach m (past m (suc (reach c)) c) k q → VisitsTo reach m (some c) (suc k) q

visits_then : {reach : List ℕ → ℕ} {m j k : ℕ} {o p q : Option (List ℕ)} → VisitsTo reach m o j p → VisitsTo reach m p k q → VisitsTo reach m o (j + k) q
visits_then {reach} {m} {k = k} {o = o} {q = q} end d = subst (λ (z : ℕ). VisitsTo reach m o z q) (sym (zero-add k)) d
visits_then {reach} {m} {k = k} {q = q} (visit {c = c} {k = i} v) d = subst (λ (z : ℕ). VisitsTo reach m (some c) z q) (sym (suc-add i k)) (visit (visits_then v d))

-- where the walk stands, if behind p it stands at o, n places
under : ℕ → List ℕ → ℕ → Option (List ℕ) → Option (List ℕ)
unfolding lift
under m [] n o = o
under m (a ∷ p) n o = lift m a (length p + n) (under m p n o)

under_some : (m : ℕ) (p : List ℕ) (n : ℕ) (c : List ℕ) → under m p n (some c) ≡ some (p ++ c)
unfolding under lift
under_some m [] n c = refl
under_some m (a ∷ p) n c = ap (lift m a (length p + n)) (under_some m p n c)

move-lift : (m a n : ℕ) (c : List ℕ) → length c ≡ n → (o : Option (List ℕ)) → move m a c o ≡ lift m a n o
unfolding move lift
move-lift m a n c e (some b) = refl
move-lift m a n c e none = rw e

under_past : (m : ℕ) (p : List ℕ) (n e : ℕ) (c : List ℕ) → length c ≡ n → past m (length p + e) (p ++ c) ≡ under m p n (past m e c)
unfolding under past
under_past m [] n e c h = ap (λ (z : ℕ). past m z c) (zero-add e)
under_past m (a ∷ p) n e c h =
    ap (λ (z : ℕ). past m z (a ∷ (p ++ c))) (suc-add (length p) e)
    ∙ ap (move m a (p ++ c)) (under_past m p n e c h)
    ∙ move-lift m a (length p + n) (p ++ c) (length-append p c ∙ ap (λ (z : ℕ). length p + z) h) (under m p n (past m e c))

under_snoc : (m : ℕ) (p : List ℕ) (a k : ℕ) (o : Option (List ℕ)) → under m (p ++ (a ∷ [])) k o ≡ under m p (suc k) (lift m a k o)
unfolding under
under_snoc m [] a k o = ap (λ (z : ℕ). lift m a z o) (zero-add k)
under_snoc m (b ∷ p) a k o =
    let l : length (p ++ (a ∷ [])) ≡ length p + 1 = length-append p (a ∷ []) in
    let e : length (p ++ (a ∷ [])) + k ≡ length p + suc k = omega arith in
    ap (λ (z : ℕ). lift m b z (under m (p ++ (a ∷ [])) k o)) e ∙ ap (lift m b (length p + suc k)) (under_snoc m p a k o)

-- reach counts the places that go well together
pub record CountsWell (ok : List ℕ → Bool) (reach : List ℕ → ℕ) : Type 0 where
  pub whole : (p : List ℕ) → ok p ≡ true → reach p ≡ length p
  pub part : (p : List ℕ) (a : ℕ) (c : List ℕ) → ok p ≡ true → ok (p ++ (a ∷ [])) ≡ false → reach (p ++ (a ∷ c)) ≡ length p

module _ (ok : List ℕ → Bool) (reach : List ℕ → ℕ) (r : CountsWell ok reach) (m : ℕ) where
  at_end : (p : List ℕ) → ok p ≡ true → VisitsTo reach m (some p) 1 (under m p 0 none)
  unfolding past
  at_end p h =
      let e : past m (suc (reach p)) p ≡ under m p 0 none =
      ap (λ (z : ℕ). past m (suc z) p) (r.whole p h)
      ∙ ap (λ (z : ℕ). past m z p) (sym (add-one (length p)))
      ∙ ap (past m (length p + 1)) (sym (append-nil p))
      ∙ under_past m p 0 1 [] refl in
      visit (subst (λ (o : Option (List ℕ)). VisitsTo reach m o zero (under m p 0 none)) (sym e) end)

  at_bad : (p : List ℕ) (a k : ℕ) (c : List ℕ) → length c ≡ k → ok p ≡ true → ok (p ++ (a ∷ [])) ≡ false → VisitsTo reach m (some (p ++ (a ∷ c))) 1 (under m p (suc k) (lift m a k none))
  unfolding past
  at_bad p a k c l h g =
      let e : past m (suc (reach (p ++ (a ∷ c)))) (p ++ (a ∷ c)) ≡ under m p (suc k) (lift m a k none) =
      ap (λ (z : ℕ). past m (suc z) (p ++ (a ∷ c))) (r.part p a c h g)
      ∙ ap (λ (z : ℕ). past m z (p ++ (a ∷ c))) (sym (add-one (length p)))
      ∙ under_past m p (suc k) 1 (a ∷ c) (ap suc l)
      ∙ ap (under m p (suc k)) (move-lift m a k c l none) in
      visit (subst (λ (o : Option (List ℕ)). VisitsTo reach m o zero (under m p (suc k) (lift m a k none))) (sym e) end)

  visits : (p : List ℕ) (n len lo : ℕ) → m ≡ lo + len → ok p ≡ true → VisitsTo reach m (under m p n (first_from n len lo)) (visits_among ok p n len lo) (under m p n none)
  unfolding visits_among first_from lift
  visits p zero len lo e h =
      rw (leb-zero len) (subst (λ (o : Option (List ℕ)). VisitsTo reach m o 1 (under m p zero none)) (sym (under_some m p zero [] ∙ ap some (append-nil p))) (at_end p h))
  visits p (suc k) zero lo e h = rw (leb-suc-zero k) end
  visits p (suc k) (suc l) lo e h =
      go (λ g. visits (p ++ (lo ∷ [])) k l (suc lo) (omega arith) g) (visits p (suc k) l (suc lo) (omega arith) h) (ok (p ++ (lo ∷ []))) refl
    where
      first : first_from (suc k) (suc l) lo ≡ lift m lo k (first_from k l (suc lo))
      first = sym (first_block k l lo) ∙ ap (λ (z : ℕ). lift z lo k (first_from k l (suc lo))) (sym e)

      next : lift m lo k none ≡ first_from (suc k) l (suc lo)
      next = ap (λ (z : ℕ). lift z lo k none) e ∙ next_block k l lo

      rest : ℕ
      rest = visits_among ok p (suc k) l (suc lo)

      bad : (b : Bool) → leb k l ≡ b → ok (p ++ (lo ∷ [])) ≡ false → VisitsTo reach m (under m p (suc k) (lift m lo k (cond b (some (up_from (suc lo) k)) none))) (cond b 1 0) (under m p (suc k) (lift m lo k none))
      bad true f g = subst (λ (o : Option (List ℕ)). VisitsTo reach m o 1 (under m p (suc k) (lift m lo k none))) (sym (under_some m p (suc k) (lo ∷ up_from (suc lo) k))) (at_bad p lo k (up_from (suc lo) k) (length_up (suc lo) k) h g)
      bad false f g = end

      go : (ok (p ++ (lo ∷ [])) ≡ true → VisitsTo reach m (under m (p ++ (lo ∷ [])) k (first_from k l (suc lo))) (visits_among ok (p ++ (lo ∷ [])) k l (suc lo)) (under m (p ++ (lo ∷ [])) k none))
          → VisitsTo reach m (under m p (suc k) (first_from (suc k) l (suc lo))) rest (under m p (suc k) none)
          → (b : Bool) → ok (p ++ (lo ∷ [])) ≡ b
          → VisitsTo reach m (under m p (suc k) (first_from (suc k) (suc l) lo)) (cond b (visits_among ok (p ++ (lo ∷ [])) k l (suc lo)) (cond (leb k l) 1 0) + rest) (under m p (suc k) none)
      go i j true g =
          subst (λ (o : Option (List ℕ)). VisitsTo reach m (under m p (suc k) o) (visits_among ok (p ++ (lo ∷ [])) k l (suc lo) + rest) (under m p (suc k) none)) (sym first)
          (visits_then
          (subst (λ (o : Option (List ℕ)). VisitsTo reach m o (visits_among ok (p ++ (lo ∷ [])) k l (suc lo)) (under m p (suc k) (first_from (suc k) l (suc lo)))) (under_snoc m p lo k (first_from k l (suc lo)))
          (subst (λ (o : Option (List ℕ)). VisitsTo reach m (under m (p ++ (lo ∷ [])) k (first_from k l (suc lo))) (visits_among ok (p ++ (lo ∷ [])) k l (suc lo)) o) (under_snoc m p lo k none ∙ ap (under m p (suc k)) next) (i g)))
          j)
      go i j false g =
          subst (λ (o : Option (List ℕ)). VisitsTo reach m (under m p (suc k) o) (cond (leb k l) 1 0 + rest) (under m p (suc k) none)) (sym first)
          (visits_then
          (subst (λ (o : Option (List ℕ)). VisitsTo reach m (under m p (suc k) (lift m lo k (first_from k l (suc lo)))) (cond (leb k l) 1 0) (under m p (suc k) o)) next (bad (leb k l) refl g))
          j)

  -- ---- the theorem: all choices of n places are walked in `visits_among` visits
  pub walk_visits : (n : ℕ) → ok [] ≡ true → VisitsTo reach m (first_of n m) (visits_among ok [] n m 0) none
  unfolding first_of first_from under
  walk_visits n h = visits [] n m 0 (sym (zero-add m)) h
