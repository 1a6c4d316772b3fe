-- How often letters occur among the sites: any list will do that has each different site once. Assumes nothing.
use Prim.Native.Nat.{ℕ, zero, suc, ◌+◌, ◌-◌, ◌≤◌, ◌<◌}
use Rattle.std.specs.Prelude.{◌≡◌, Bool, ◌&&◌, ◌||◌, ◌⊎◌, length, drop, eqb}
use Rattle.std.proofs.Math.Path.{refl, ap}
use Rattle.std.proofs.Common.{sym, ap₂, subst, ◌∙◌, inl, inr, ⊎_elim, arith, length-take, eqb-true, eq-eqb}
use Rattle.std.proofs.Math.Bool.{true, false, cond}
use mathlib.Core.List.{List, [], ◌∷◌}
use Rattle.lists.specs.Tests.{below?, truth?, both, or_left, or_right, clash}
use Rattle.lists.specs.Lists.{same}
use Rattle.lists.specs.SameLaws.{same_refl, same-eq}
use Rattle.enzyme_cuts.specs.Cutting.{Range, site, part, stands_in, different, having, occurs}
use Rattle.enzyme_cuts.specs.Work.{RangesWithin}
use Rattle.enzyme_cuts.specs.InsideLaws.{part_length}
use Rattle.enzyme_once.specs.ThinLaws.{Hit}
use Rattle.enzyme_once.specs.DistinctLaws.{NoRangeTwice}

-- ---- the different ranges of a list

-- whether q has this start and this end
abbrev is_at : ℕ → ℕ → Range → Bool
is_at a e q = eqb q.from a && eqb q.to e

at_is : (a e : ℕ) (q : Range) → is_at a e q ≡ true → (q.from ≡ a) × (q.to ≡ e)
at_is a e q h = let g = both (eqb q.from a) (eqb q.to e) h in (eqb-true q.from a g.0, eqb-true q.to e g.1)

is_at_lem : (a e : ℕ) (q : Range) → q.from ≡ a → q.to ≡ e → is_at a e q ≡ true
is_at_lem a e q g h = rw (eq-eqb q.from a g, eq-eqb q.to e h)

stands_hit : (r : Range) (rs : List Range) → stands_in r rs ≡ true → Hit r.from r.to rs
stands_hit r [] h = clash h refl
stands_hit r (q ∷ rs) h = go (is_at r.from r.to q) refl h (stands_hit r rs)
  where
    go : (b : Bool) → is_at r.from r.to q ≡ b → (b || stands_in r rs) ≡ true → (stands_in r rs ≡ true → Hit r.from r.to rs) → Hit r.from r.to (q ∷ rs)
    go true e g ih = inl (at_is r.from r.to q e)
    go false e g ih = inr (ih g)

hit_stands : (r : Range) (rs : List Range) → Hit r.from r.to rs → stands_in r rs ≡ true
hit_stands r [] h = absurd h
hit_stands r (q ∷ rs) (inl h) = or_left (is_at r.from r.to q) (stands_in r rs) (is_at_lem r.from r.to q h.0 h.1)
hit_stands r (q ∷ rs) (inr h) = or_right (is_at r.from r.to q) (stands_in r rs) (hit_stands r rs h)

hit_different : (a e : ℕ) (rs : List Range) → Hit a e rs → Hit a e (different rs)
hit_different a e [] h = absurd h
hit_different a e (r ∷ rs) h = go (stands_in r rs) refl h (hit_different a e rs)
  where
    go : (b : Bool) → stands_in r rs ≡ b → Hit a e (r ∷ rs) → (Hit a e rs → Hit a e (different rs)) → Hit a e (cond b (different rs) (r ∷ different rs))
    go true f (inl g) ih = ih (rw (← g.0, ← g.1) (stands_hit r rs f))
    go true f (inr g) ih = ih g
    go false f (inl g) ih = inl g
    go false f (inr g) ih = inr (ih g)

different_hit : (a e : ℕ) (rs : List Range) → Hit a e (different rs) → Hit a e rs
different_hit a e [] h = h
different_hit a e (r ∷ rs) h = go (stands_in r rs) h (different_hit a e rs)
  where
    go : (b : Bool) → Hit a e (cond b (different rs) (r ∷ different rs)) → (Hit a e (different rs) → Hit a e rs) → Hit a e (r ∷ rs)
    go true g ih = inr (ih g)
    go false (inl g) ih = inl g
    go false (inr g) ih = inr (ih g)

different-once : (rs : List Range) → NoRangeTwice (different rs)
different-once [] = tt
different-once (r ∷ rs) = go (stands_in r rs) refl (different-once rs)
  where
    go : (b : Bool) → stands_in r rs ≡ b → NoRangeTwice (different rs) → NoRangeTwice (cond b (different rs) (r ∷ different rs))
    go true f ih = ih
    go false f ih = (λ h. clash (hit_stands r rs (different_hit r.from r.to rs h)) f, ih)

-- ---- a list without one range

without : ℕ → ℕ → List Range → List Range
without a e [] = []
without a e (y ∷ ys) = cond (is_at a e y) (without a e ys) (y ∷ without a e ys)

without_hit : (a e b f : ℕ) (ys : List Range) → Hit b f (without a e ys) → Hit b f ys × ((b ≡ a) × (f ≡ e) → ⊥)
unfolding without
without_hit a e b f [] h = absurd h
without_hit a e b f (y ∷ ys) h = go (is_at a e y) refl h (without_hit a e b f ys)
  where
    go : (t : Bool) → is_at a e y ≡ t → Hit b f (cond t (without a e ys) (y ∷ without a e ys)) → (Hit b f (without a e ys) → Hit b f ys × ((b ≡ a) × (f ≡ e) → ⊥))
        → Hit b f (y ∷ ys) × ((b ≡ a) × (f ≡ e) → ⊥)
    go true g h ih = let x = ih h in (inr x.0, x.1)
    go false g (inl h) ih = (inl h, λ p. clash (is_at_lem a e y (h.0 ∙ p.0) (h.1 ∙ p.1)) g)
    go false g (inr h) ih = let x = ih h in (inr x.0, x.1)

hit_without : (a e b f : ℕ) (ys : List Range) → Hit b f ys → ((b ≡ a) × (f ≡ e) → ⊥) → Hit b f (without a e ys)
unfolding without
hit_without a e b f [] h n = h
hit_without a e b f (y ∷ ys) h n = go (is_at a e y) refl h (λ g. hit_without a e b f ys g n)
  where
    go : (t : Bool) → is_at a e y ≡ t → Hit b f (y ∷ ys) → (Hit b f ys → Hit b f (without a e ys)) → Hit b f (cond t (without a e ys) (y ∷ without a e ys))
    go true g (inl h) ih = let x = at_is a e y g in absurd (n (sym h.0 ∙ x.0, sym h.1 ∙ x.1))
    go true g (inr h) ih = ih h
    go false g (inl h) ih = inl h
    go false g (inr h) ih = inr (ih h)

without-none : (a e : ℕ) (ys : List Range) → (Hit a e ys → ⊥) → without a e ys ≡ ys
unfolding without
without-none a e [] n = refl
without-none a e (y ∷ ys) n = go (is_at a e y) refl (without-none a e ys (λ h. n (inr h)))
  where
    go : (t : Bool) → is_at a e y ≡ t → without a e ys ≡ ys → cond t (without a e ys) (y ∷ without a e ys) ≡ y ∷ ys
    go true g ih = absurd (n (inl (at_is a e y g)))
    go false g ih = ap (λ (rs : List Range). y ∷ rs) ih

without-once : (a e : ℕ) (ys : List Range) → NoRangeTwice ys → NoRangeTwice (without a e ys)
unfolding without
without-once a e [] d = tt
without-once a e (y ∷ ys) d = go (is_at a e y) (without-once a e ys d.1)
  where
    go : (t : Bool) → NoRangeTwice (without a e ys) → NoRangeTwice (cond t (without a e ys) (y ∷ without a e ys))
    go true ih = ih
    go false ih = (λ h. d.0 (without_hit a e y.from y.to ys h).0, ih)

-- ---- two lists that have the letters x at the same places, none of them twice

module _ (s x : List ℕ) where
  -- the letters depend on start and end alone
  spelt : (a e : ℕ) (q : Range) → q.from ≡ a → q.to ≡ e → part s (site a e) ≡ part s q
  spelt a e q g h = rw (g, h)

  having_less : (a e : ℕ) (ys : List Range) → part s (site a e) ≡ x → NoRangeTwice ys → Hit a e ys → having s ys x ≡ suc (having s (without a e ys) x)
  unfolding without
  having_less a e [] p d h = absurd h
  having_less a e (y ∷ ys) p d h = go (is_at a e y) refl h (having_less a e ys p d.1)
    where
      go : (t : Bool) → is_at a e y ≡ t → Hit a e (y ∷ ys) → (Hit a e ys → having s ys x ≡ suc (having s (without a e ys) x))
          → having s (y ∷ ys) x ≡ suc (having s (cond t (without a e ys) (y ∷ without a e ys)) x)
      go true g h ih =
          let z = at_is a e y g in
          let k : same (part s y) x ≡ true = rw (← (spelt a e y z.0 z.1), p) (same_refl x) in
          rw (k, without-none a e ys (λ u. d.0 (rw (z.0, z.1) u)))
      go false g (inl h) ih = clash (is_at_lem a e y h.0 h.1) g
      go false g (inr h) ih = more (same (part s y) x) (ih h)
        where
          more : (b : Bool) → having s ys x ≡ suc (having s (without a e ys) x)
              → cond b (suc (having s ys x)) (having s ys x) ≡ suc (cond b (suc (having s (without a e ys) x)) (having s (without a e ys) x))
          more true e = ap suc e
          more false e = e

  having-none : (ys : List Range) → ((a e : ℕ) → part s (site a e) ≡ x → Hit a e ys → ⊥) → having s ys x ≡ 0
  having-none [] n = refl
  having-none (y ∷ ys) n = go (same (part s y) x) refl (having-none ys (λ a e p h. n a e p (inr h)))
    where
      go : (b : Bool) → same (part s y) x ≡ b → having s ys x ≡ 0 → cond b (suc (having s ys x)) (having s ys x) ≡ 0
      go true e ih = absurd (n y.from y.to (same-eq (part s y) x e) (inl (refl, refl)))
      go false e ih = ih

  abbrev Like : List Range → List Range → Type 0
  Like xs ys = (a e : ℕ) → part s (site a e) ≡ x → Hit a e xs → Hit a e ys

  having-same : (xs ys : List Range) → NoRangeTwice xs → NoRangeTwice ys → Like xs ys → Like ys xs → having s xs x ≡ having s ys x
  having-same [] ys d f u v = sym (having-none ys (λ a e p h. v a e p h))
  having-same (q ∷ xs) ys d f u v = go (same (part s q) x) refl (λ zs. having-same xs zs d.1)
    where
      a : ℕ
      a = q.from

      e : ℕ
      e = q.to

      go : (b : Bool) → same (part s q) x ≡ b → ((zs : List Range) → NoRangeTwice zs → Like xs zs → Like zs xs → having s xs x ≡ having s zs x)
          → cond b (suc (having s xs x)) (having s xs x) ≡ having s ys x
      go true k ih =
          let p : part s (site q.from q.to) ≡ x = same-eq (part s q) x k in
          let h : Hit q.from q.to ys = u q.from q.to p (inl (refl, refl)) in
          let i = ih (without q.from q.to ys) (without-once q.from q.to ys f)
          (λ b g r l. hit_without q.from q.to b g ys (u b g r (inr l)) (λ w. d.0 (rw (← w.0, ← w.1) l)))
          (λ b g r l. let w = without_hit q.from q.to b g ys l in ⊎_elim (λ (z : (q.from ≡ b) × (q.to ≡ g)). absurd (w.1 (sym z.0, sym z.1))) (λ (z : Hit b g xs). z) (v b g r w.0)) in
          ap suc i ∙ sym (having_less q.from q.to ys p f h)
      go false k ih =
          ih ys f (λ b g r l. u b g r (inr l))
          (λ b g r l. ⊎_elim (λ (z : (q.from ≡ b) × (q.to ≡ g)). clash (rw (← (spelt b g q z.0 z.1), r) (same_refl x)) k) (λ (z : Hit b g xs). z) (v b g r l))

-- THE LAW: sites, and a list that has each of them that is not empty once
module _ (s : List ℕ) (sites once : List Range) (d : NoRangeTwice once) (all : (a e : ℕ) → a < e → Hit a e sites → Hit a e once) (some : (a e : ℕ) → Hit a e once → Hit a e sites) where
  pub occurs-once : (r : Range) → r.from < r.to → r.to ≤ length s → occurs s sites r ≡ having s once (part s r)
  occurs-once r h i =
      having-same s (part s r) (different sites) once (different-once sites) d
      (λ a e p g. all a e (filled a e p) (different_hit a e sites g))
      (λ a e p g. hit_different a e sites (some a e g))
    where
      filled : (a e : ℕ) → part s (site a e) ≡ part s r → a < e
      filled a e p =
          let l = part_length s r (omega arith) i in
          let k : length (part s (site a e)) ≡ r.to - r.from = ap length p ∙ l in
          let m = length-take (e - a) (drop a s) in
          ⊎_elim (λ (g : a < e). g) (λ (g : e ≤ a). let z : e - a ≡ 0 = omega arith in absurd (omega arith)) (below? a e)

-- ---- how many they can be

-- letters that are not none stand at most once at each start
module _ (s x : List ℕ) (some : 0 < length x) where
  ends : (ys : List Range) → RangesWithin (length s) ys → (a e : ℕ) → part s (site a e) ≡ x → Hit a e ys → (a < length s) × (e ≡ a + length x)
  ends [] i a e p h = absurd h
  ends (y ∷ ys) i a e p (inl h) =
      let q : part s y ≡ x = sym (spelt s x a e y h.0 h.1) ∙ p in
      let l : length x ≡ y.to - y.from = ap length (sym q) ∙ part_length s y i.0 i.1 in
      let u = h.0 in let v = h.1 in let w = i.0 in let z = i.1 in
      (omega arith, omega arith)
  ends (y ∷ ys) i a e p (inr h) = ends ys i.2 a e p h

  without_inside : (a e n : ℕ) (ys : List Range) → RangesWithin n ys → RangesWithin n (without a e ys)
  unfolding without
  without_inside a e n [] i = tt
  without_inside a e n (y ∷ ys) i = go (is_at a e y) (without_inside a e n ys i.2)
    where
      go : (t : Bool) → RangesWithin n (without a e ys) → RangesWithin n (cond t (without a e ys) (y ∷ without a e ys))
      go true ih = ih
      go false ih = (i.0, i.1, ih)

  below : (k : ℕ) (ys : List Range) → NoRangeTwice ys → RangesWithin (length s) ys → ((a e : ℕ) → part s (site a e) ≡ x → Hit a e ys → a < k) → having s ys x ≤ k
  below zero ys d i h = let z = having-none s x ys (λ a e p g. let l = h a e p g in omega arith) in omega arith
  below (suc k) ys d i h = go (truth? (same (part s r) x)) (truth? (stands_in r ys)) (below k)
    where
      r : Range
      r = site k (k + length x)

      less : (zs : List Range) → RangesWithin (length s) zs → ((a e : ℕ) → Hit a e zs → Hit a e ys) → (part s (site k (k + length x)) ≡ x → Hit k (k + length x) zs → ⊥)
          → (a e : ℕ) → part s (site a e) ≡ x → Hit a e zs → a < k
      less zs j sub never a e p g =
          let l = h a e p (sub a e g) in
          let q = (ends zs j a e p g).1 in
          ⊎_elim (λ (u : a < k). u) (λ (u : k ≤ a). let v : a ≡ k = omega arith in let w : e ≡ k + length x = omega arith in absurd (never (sym (ap₂ (λ (b f : ℕ). part s (site b f)) v w) ∙ p) (subst (λ (b : ℕ). Hit b (k + length x) zs) v (subst (λ (f : ℕ). Hit a f zs) w g)))) (below? a k)

      go : (same (part s (site k (k + length x))) x ≡ true) ⊎ (same (part s (site k (k + length x))) x ≡ false) → (stands_in (site k (k + length x)) ys ≡ true) ⊎ (stands_in (site k (k + length x)) ys ≡ false)
          → ((zs : List Range) → NoRangeTwice zs → RangesWithin (length s) zs → ((a e : ℕ) → part s (site a e) ≡ x → Hit a e zs → a < k) → having s zs x ≤ k) → having s ys x ≤ suc k
      go (inl p) (inl t) ih =
          let q = same-eq (part s (site k (k + length x))) x p in
          let zs = without k (k + length x) ys in
          let j = without_inside k (k + length x) (length s) ys i in
          let m = ih zs (without-once k (k + length x) ys d) j (less zs j (λ a e g. (without_hit k (k + length x) a e ys g).0) (λ u g. (without_hit k (k + length x) k (k + length x) ys g).1 (refl, refl))) in
          let l = having_less s x k (k + length x) ys q d (stands_hit (site k (k + length x)) ys t) in
          omega arith
      go (inl p) (inr t) ih = let m = ih ys d i (less ys i (λ a e g. g) (λ u g. clash (hit_stands (site k (k + length x)) ys g) t)) in omega arith
      go (inr p) t ih = let m = ih ys d i (less ys i (λ a e g. g) (λ u g. clash (rw u (same_refl x)) p)) in omega arith

  pub having_most : (ys : List Range) → NoRangeTwice ys → RangesWithin (length s) ys → having s ys x ≤ length s
  having_most ys d i = below (length s) ys d i (λ a e p h. (ends ys i a e p h).0)

  -- a range that stands there counts itself
  pub having-own : (ys : List Range) (r : Range) → NoRangeTwice ys → part s r ≡ x → Hit r.from r.to ys → 1 ≤ having s ys x
  having-own ys r d p h = let l = having_less s x r.from r.to ys p d h in omega arith
