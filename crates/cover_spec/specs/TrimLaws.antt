-- Trim ends: a pass that removes nothing changes nothing, and as many passes as there are edges are enough. Assumes nothing.
use Rattle.std.specs.Prelude.{Bool, ◌&&◌, cond, ℕ, zero, suc, ◌≤◌, eqb, length, ◌≡◌}
use Rattle.std.proofs.Math.Bool.{true, false, or-false}
use Rattle.std.proofs.Math.Path.{refl, fun_ext}
use Rattle.std.proofs.Common.{sym, ap, ◌∙◌, arith}
use borrow.Author.Tests.{eqb-true, eqb-false, not-true}
use Rattle.std.proofs.Math.Decide.{le_ind}
use Rattle.lists.specs.Tests.{both, neither}
use Rattle.lists.specs.Lists.{All}
use Rattle.lists.specs.KeepLaws.{all_map, count-le, length-keep, keep_all, keep_same, none}
use Rattle.cover_spec.specs.Cover.{group, meta, State, forced, mark_forced, cover_marked, stays, pass, trim_passes, trim}

-- ---- repeating

unfoldable pub iter : {A : Type 0} → (A → A) → ℕ → A → A
iter f zero x = x
iter f (suc k) x = iter f k (f x)

pub iter_fix : {A : Type 0} (f : A → A) (k : ℕ) (x : A) → f x ≡ x → iter f k x ≡ x
unfolding iter
iter_fix f zero x e = refl
iter_fix f (suc k) x e = rw e (iter_fix f k x e)

pub iter-after : {A : Type 0} (f : A → A) (k : ℕ) (x : A) → iter f k (f x) ≡ f (iter f k x)
unfolding iter
iter-after f zero x = refl
iter-after f (suc k) x = iter-after f k (f x)

-- once still, still for good
pub iter_still : {A : Type 0} (f : A → A) (j k : ℕ) (x : A) → j ≤ k → f (iter f j x) ≡ iter f j x → iter f k x ≡ iter f j x
unfolding iter
iter_still {A} f j k x h e = le_ind (λ (m : ℕ). iter f m x ≡ iter f j x) refl (λ m i r. iter-after f m x ∙ ap f r ∙ e) k h

-- ---- a pass that removes nothing changes nothing

module _ (s : State) where
  pub stay_unmarked : All (λ e. stays s e ≡ true) s.edges → All (λ e. mark_forced s (group e) ≡ false) s.edges
  unfolding stays
  stay_unmarked h = all_map (λ e q. not-true _ (both _ _ q).0) s.edges h

  pub still_forced : All (λ e. mark_forced s (group e) ≡ false) s.edges → (g : ℕ) → forced s.edges g ≡ false
  unfolding mark_forced
  still_forced h g = go (forced s.edges g) refl
    where
      each : (b c : Bool) → (b ≡ true → ⊥) → (b && c) ≡ false
      each true c n = absurd (n refl)
      each false c n = refl

      go : (b : Bool) → forced s.edges g ≡ b → b ≡ false
      go false i = refl
      go true i = sym i ∙ none _ s.edges (all_map (λ e q. each (eqb (group e) g) _ (λ r.
          let z : true ≡ false = sym i ∙ ap (forced s.edges) (sym (eqb-true _ _ r)) ∙ (neither (s.marked (group e)) (forced s.edges (group e)) q).1 in
          let z' : ◌≡◌ {A = ℕ} 0 1 = cc in omega arith)) s.edges h)

  pub pass_still : length (pass s).edges ≡ length s.edges → pass s ≡ s
  unfolding pass mark_forced cover_marked
  pass_still h =
      let all : All (λ e. stays s e ≡ true) s.edges = keep_all (stays s) s.edges h in
      let un : All (λ e. mark_forced s (group e) ≡ false) s.edges = stay_unmarked all in
      λ i. record { edges = keep_same (stays s) s.edges all i; marked = fun_ext (same-marks un) i; covered = fun_ext (same-covers un) i }
    where
      same-marks : All (λ e. mark_forced s (group e) ≡ false) s.edges → (g : ℕ) → mark_forced s g ≡ s.marked g
      same-marks un g = rw (still_forced un g) (or-false _)

      and_f : (a b : Bool) → b ≡ false → (a && b) ≡ false
      and_f true b e = e
      and_f false b e = refl

      same-covers : All (λ e. mark_forced s (group e) ≡ false) s.edges → (m : ℕ) → cover_marked s m ≡ s.covered m
      same-covers un m = rw (none (λ e. eqb (meta e) m && mark_forced s (group e)) s.edges (all_map (λ e q. and_f (eqb (meta e) m) (mark_forced s (group e)) q) s.edges un)) (or-false _)

  pub pass_le : length (pass s).edges ≤ length s.edges
  unfolding pass
  pass_le = omega (arith, length-keep (stays s) s.edges, count-le (stays s) s.edges)

-- ---- trim

pub passes-iter : (k : ℕ) (s : State) → trim_passes k s ≡ iter pass k s
unfolding trim_passes iter
passes-iter zero s = refl
passes-iter (suc k) s = go (eqb (length (pass s).edges) (length s.edges)) refl (passes-iter k (pass s))
  where
    go : (b : Bool) → eqb (length (pass s).edges) (length s.edges) ≡ b → trim_passes k (pass s) ≡ iter pass k (pass s)
        → cond b (pass s) (trim_passes k (pass s)) ≡ iter pass k (pass s)
    go true i r = sym (iter_fix pass k (pass s) (ap pass (pass_still s (eqb-true _ _ i))))
    go false i r = r

pub settles : (k : ℕ) (s : State) → length s.edges ≤ k → pass (iter pass k s) ≡ iter pass k s
unfolding iter
settles zero s h = pass_still s (omega (arith, pass_le s))
settles (suc k) s h = go (eqb (length (pass s).edges) (length s.edges)) refl (settles k (pass s))
  where
    go : (b : Bool) → eqb (length (pass s).edges) (length s.edges) ≡ b
        → (length (pass s).edges ≤ k → pass (iter pass k (pass s)) ≡ iter pass k (pass s)) → pass (iter pass k (pass s)) ≡ iter pass k (pass s)
    go true i r = let e : pass s ≡ s = pass_still s (eqb-true _ _ i) in rw (iter_fix pass k (pass s) (ap pass e)) (ap pass e)
    go false i r = r (omega (arith, pass_le s, eqb-false (length (pass s).edges) (length s.edges) i))

pub trim_settled : (s : State) → pass (trim s) ≡ trim s
trim_settled s = rw (passes-iter (length s.edges) s) (settles (length s.edges) s (omega arith))

-- any number of passes that is at least the number of edges does what trim does
pub trim-iter : (k : ℕ) (s : State) → length s.edges ≤ k → iter pass k s ≡ trim s
trim-iter k s h = iter_still pass (length s.edges) k s h (settles (length s.edges) s (omega arith)) ∙ sym (passes-iter (length s.edges) s)

pub trim_of_settled : (s : State) → pass s ≡ s → trim s ≡ s
trim_of_settled s e = passes-iter (length s.edges) s ∙ iter_fix pass (length s.edges) s e

pub trim-trim : (s : State) → trim (trim s) ≡ trim s
trim-trim s = trim_of_settled (trim s) (trim_settled s)

pub trim-le : (s : State) → length (trim s).edges ≤ length s.edges
unfolding iter
trim-le s = rw (passes-iter (length s.edges) s) (go (length s.edges) s)
  where
    go : (k : ℕ) (t : State) → length (iter pass k t).edges ≤ length t.edges
    go zero t = omega arith
    go (suc k) t = omega (arith, go k (pass t), pass_le t)
