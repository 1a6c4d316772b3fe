-- The turns end. Assumes nothing.
use Rattle.std.specs.Prelude.{Bool, List, leb, ◌≡◌}
use Rattle.std.proofs.Math.Bool.{true, false, cond}
use Prim.Native.Nat.{ℕ, zero, suc, ◌≤◌, ◌<◌}
use Rattle.std.proofs.Math.Dec.{eqb}
use Rattle.std.proofs.Math.ListN.{length}
use Rattle.std.proofs.Math.Path.{refl, ap}
use Rattle.std.proofs.Common.{sym, ◌∙◌, arith}
use borrow.Author.Tests.{eqb-true, eqb-false, leb-true, leb-false, eq-eqb, ne_eqb}
use Rattle.lists.specs.Tests.{neither}
use Rattle.lists.specs.KeepLaws.{all_map, all_keep, keep_all, count_none}
use Rattle.cover_spec.specs.Cover.{Edge, group, of_group, State, forced, mark_forced, stays, pass, trim_passes, trim, choice, mark, no_edges, choose, turn, turns}
use Rattle.cover_spec.specs.TrimLaws.{iter, iter_fix, iter_still, stay_unmarked, pass_le, passes-iter, trim-iter, trim-trim, trim-le}
use Rattle.cover_spec.proofs.ChoiceLaws.{GroupsUnder, choice-has}

pub under_pass : (n : ℕ) (s : State) → GroupsUnder n s.edges → GroupsUnder n (pass s).edges
unfolding pass
under_pass n s u = all_keep _ (stays s) s.edges u

pub under_trim : (n : ℕ) (s : State) → GroupsUnder n s.edges → GroupsUnder n (trim s).edges
unfolding iter
under_trim n s u = rw (passes-iter (length s.edges) s) (go (length s.edges) s u)
  where
    go : (k : ℕ) (t : State) → GroupsUnder n t.edges → GroupsUnder n (iter pass k t).edges
    go zero t v = v
    go (suc k) t v = go k (pass t) (under_pass n t v)

-- a pass more before the trim makes no difference
pub trim-pass : (s : State) → trim (pass s) ≡ trim s
unfolding iter
trim-pass s = sym (trim-iter (length s.edges) (pass s) (pass_le s)) ∙ trim-iter (suc (length s.edges)) s (omega arith)

-- a trim that starts with an edge of a marked group removes one
pub trim_drops : (s : State) (g : ℕ) → s.marked g ≡ true → 0 < of_group g s.edges → length (trim s).edges < length s.edges
unfolding pass mark_forced
trim_drops s g m h = go (eqb (length (pass s).edges) (length s.edges)) refl
  where
    each : (e : Edge) → mark_forced s (group e) ≡ false → (b : Bool) → eqb (group e) g ≡ b → b ≡ false
    each e q true i = sym m ∙ ap s.marked (sym (eqb-true (group e) g i)) ∙ (neither (s.marked (group e)) (forced s.edges (group e)) q).0
    each e q false i = refl

    go : (b : Bool) → eqb (length (pass s).edges) (length s.edges) ≡ b → length (trim s).edges < length s.edges
    go true i =
        let z : of_group g s.edges ≡ 0 =
        count_none (λ e. eqb (group e) g) s.edges
        (all_map (λ e q. each e q (eqb (group e) g) refl) s.edges (stay_unmarked s (keep_all (stays s) s.edges (eqb-true (length (pass s).edges) (length s.edges) i)))) in
        absurd (omega arith)
    go false i = rw (← trim-pass s) (omega (arith, trim-le (pass s), pass_le s, eqb-false (length (pass s).edges) (length s.edges) i))

module _ (all : List Edge) (n : ℕ) where
  pub turn-empty : (s : State) → length (trim s).edges ≡ 0 → turn all n s ≡ trim s
  unfolding turn
  turn-empty s h = rw (eq-eqb (length (trim s).edges) 0 h)

  pub turn-choose : (s : State) → 0 < length (trim s).edges → turn all n s ≡ choose all n (trim s)
  unfolding turn
  turn-choose s h = rw (ne_eqb (length (trim s).edges) 0 (λ e. omega arith))

  pub trim-done : (s : State) → length s.edges ≡ 0 → trim s ≡ s
  unfolding trim_passes
  trim-done s h = rw h

  pub turn-done : (s : State) → length s.edges ≡ 0 → turn all n s ≡ s
  turn-done s h = turn-empty s (ap (λ (t : State). length t.edges) (trim-done s h) ∙ h) ∙ trim-done s h

  pub turn-trim : (s : State) → turn all n (trim s) ≡ turn all n s
  unfolding turn
  turn-trim s = rw (trim-trim s)

  pub turns-iter : (k : ℕ) (s : State) → turns all n k s ≡ iter (turn all n) k s
  unfolding turns iter
  turns-iter zero s = refl
  turns-iter (suc k) s = go (no_edges s) refl (turns-iter k (turn all n s))
    where
      go : (b : Bool) → no_edges s ≡ b → turns all n k (turn all n s) ≡ iter (turn all n) k (turn all n s)
          → cond b s (turns all n k (turn all n s)) ≡ iter (turn all n) k (turn all n s)
      go true i r = let e : turn all n s ≡ s = turn-done s (eqb-true (length s.edges) 0 i) in rw e (sym (iter_fix (turn all n) k s e))
      go false i r = r

  pub under_turn : (s : State) → GroupsUnder n s.edges → GroupsUnder n (turn all n s).edges
  unfolding turn choose mark
  under_turn s u = go (no_edges (trim s))
    where
      go : (b : Bool) → GroupsUnder n (cond b (trim s) (choose all n (trim s))).edges
      go true = under_trim n s u
      go false = under_trim n s u

  pub choose_drops : (s : State) → GroupsUnder n s.edges → 0 < length s.edges → length (trim (choose all n s)).edges < length s.edges
  unfolding choose mark
  choose_drops s u h = trim_drops (choose all n s) g (rw (eq-eqb g g refl)) (choice-has all s.edges n u h)
    where
      g : ℕ
      g = choice all s.edges n

  -- one turn more than edges remain after the first trim
  pub turns_end : (k : ℕ) (s : State) → GroupsUnder n s.edges → length (trim s).edges ≤ k → length (iter (turn all n) (suc k) s).edges ≡ 0
  unfolding iter
  turns_end zero s u h = rw (turn-empty s (omega arith)) (omega arith)
  turns_end (suc k) s u h = go (eqb (length (trim s).edges) 0) refl (turns_end k (turn all n s) (under_turn s u))
    where
      go : (b : Bool) → eqb (length (trim s).edges) 0 ≡ b
          → (length (trim (turn all n s)).edges ≤ k → length (iter (turn all n) (suc k) (turn all n s)).edges ≡ 0)
          → length (iter (turn all n) (suc k) (turn all n s)).edges ≡ 0
      go true i r =
          let z : length (trim s).edges ≡ 0 = eqb-true (length (trim s).edges) 0 i in
          let y : length (turn all n s).edges ≡ 0 = rw (turn-empty s z) z in
          ap (λ (t : State). length t.edges) (iter_fix (turn all n) (suc k) (turn all n s) (turn-done (turn all n s) y)) ∙ y
      go false i r =
          let z : 0 < length (trim s).edges = omega (arith, eqb-false (length (trim s).edges) 0 i) in
          r (rw (turn-choose s z) (omega (arith, choose_drops (trim s) (under_trim n s u) z)))

  pub same_end : (i j : ℕ) (s : State) → length (iter (turn all n) i s).edges ≡ 0 → length (iter (turn all n) j s).edges ≡ 0 → iter (turn all n) i s ≡ iter (turn all n) j s
  same_end i j s p q = go (leb i j) refl
    where
      go : (b : Bool) → leb i j ≡ b → iter (turn all n) i s ≡ iter (turn all n) j s
      go true e = sym (iter_still (turn all n) i j s (leb-true i j e) (turn-done _ p))
      go false e = iter_still (turn all n) j i s (omega (arith, leb-false i j e)) (turn-done _ q)
