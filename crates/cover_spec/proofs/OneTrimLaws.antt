-- In a run one pass is a whole trim: an uncovered meta-peptide keeps all its edges, so no meta-peptide comes down to a single edge later. Assumes nothing.
use Rattle.std.specs.Prelude.{Bool, not, ◌&&◌, ◌||◌, ℕ, suc, ◌<◌, length, ◌≡◌}
use Rattle.std.proofs.Math.Bool.{true, false, and-false}
use mathlib.Core.List.{List, [], ◌∷◌}
use Rattle.std.proofs.Math.Dec.{eqb}
use Rattle.std.proofs.Math.Path.{refl, sym}
use Rattle.std.proofs.Common.{ap, ◌∙◌, subst, arith}
use borrow.Author.Tests.{eq-eqb, lt-ltb, not-true}
use Rattle.lists.specs.Tests.{both, neither, or_right}
use Rattle.lists.specs.Lists.{count, some, keep, All}
use Rattle.lists.specs.KeepLaws.{all_map, all_keep, count_ext, count-keep, length-count, length-keep, keep_same, none, all-has, all-kept, all_two, keep-keep, keep_ext}
use Rattle.cover_spec.specs.Cover.{Edge, group, meta, of_meta, State, forced, mark_forced, cover_marked, stays, pass, trim, mark, choose}
use Rattle.cover_spec.specs.TrimLaws.{iter, iter_fix, pass_still, trim-iter}
use Rattle.cover_spec.proofs.CoverLaws.{Visited, sound-run, begin, passed, chosen}

-- ---- the remaining edges are those of the uncovered meta-peptides

lean_pass : (all : List Edge) (s : State) → s.edges ≡ keep (λ e. not (s.covered (meta e))) all → (pass s).edges ≡ keep (λ e. not ((pass s).covered (meta e))) all
unfolding pass stays cover_marked
lean_pass all s h =
    ap (keep (stays s)) h
    ∙ keep-keep (stays s) (λ e. not (s.covered (meta e))) all
    ∙ keep_ext (λ e. not (s.covered (meta e)) && stays s e) (λ e. not (cover_marked s (meta e))) all (all_map each all (all-has all))
  where
    each : (e : Edge) → ((p : Edge → Bool) → p e ≡ true → 0 < count p all) → (not (s.covered (meta e)) && stays s e) ≡ not (cover_marked s (meta e))
    each e k = go (s.covered (meta e)) refl (mark_forced s (group e)) refl
      where
        p : Edge → Bool
        p = λ d. eqb (meta d) (meta e) && mark_forced s (group d)

        go : (a : Bool) → s.covered (meta e) ≡ a → (b : Bool) → mark_forced s (group e) ≡ b
            → (not a && (not b && not (a || some p s.edges))) ≡ not (a || some p s.edges)
        go true i b j = refl
        go false i false j = refl
        go false i true j =
            let z : 0 < count p s.edges =
            subst (λ (l : List Edge). 0 < count p l) (sym h) (rw (count-keep p (λ d. not (s.covered (meta d))) all)
            (k (λ d. not (s.covered (meta d)) && p d) (rw (i, eq-eqb (meta e) (meta e) refl, j)))) in
            rw (lt-ltb 0 (count p s.edges) z)

module _ (n : ℕ) (all : List Edge) where
  pub lean : {s : State} → Visited n all s → s.edges ≡ keep (λ e. not (s.covered (meta e))) all
  unfolding choose mark
  lean begin = sym (keep_same (λ e. true) all (go all))
    where
      go : (l : List Edge) → All (λ e. true ≡ true) l
      go [] = tt
      go (e ∷ l) = (refl, go l)
  lean (passed {s = s} v) = lean_pass all s (lean v)
  lean (chosen v e z) = lean v

module _ (n : ℕ) (all : List Edge) (s : State) (v : Visited n all s) where
  abbrev left : List Edge
  left = keep (stays s) s.edges

  -- an edge that stays: neither end was marked or covered
  free : (e : Edge) → stays s e ≡ true → (mark_forced s (group e) ≡ false) × (cover_marked s (meta e) ≡ false)
  unfolding stays
  free e i =
      let u = both (not (mark_forced s (group e))) (not (cover_marked s (meta e))) i in
      (not-true (mark_forced s (group e)) u.0, not-true (cover_marked s (meta e)) u.1)

  same-degree : (m : ℕ) → cover_marked s m ≡ false → of_meta m left ≡ of_meta m s.edges
  unfolding cover_marked pass
  same-degree m i =
      (sound-run n all (passed v)).whole m i
      ∙ sym ((sound-run n all v).whole m (neither (s.covered m) (some (λ e. eqb (meta e) m && mark_forced s (group e)) s.edges) i).0)

  -- no edge that stays is the only one of its meta-peptide
  many : (e : Edge) → ((p : Edge → Bool) → p e ≡ true → 0 < count p s.edges) → stays s e ≡ true → eqb (of_meta (meta e) left) 1 ≡ false
  unfolding mark_forced
  many e h i = go (eqb (of_meta (meta e) left) 1) refl
    where
      f : (mark_forced s (group e) ≡ false) × (cover_marked s (meta e) ≡ false)
      f = free e i

      go : (b : Bool) → eqb (of_meta (meta e) left) 1 ≡ b → b ≡ false
      go false j = refl
      go true j =
          let p : Edge → Bool = λ d. eqb (group d) (group e) && eqb (of_meta (meta d) s.edges) 1 in
          let one : eqb (of_meta (meta e) s.edges) 1 ≡ true = ap (λ (k : ℕ). eqb k 1) (sym (same-degree (meta e) f.1)) ∙ j in
          sym (or_right (s.marked (group e)) (forced s.edges (group e)) (lt-ltb 0 (count p s.edges) (h p (rw (eq-eqb (group e) (group e) refl, one)))))
          ∙ f.0

  all_stay : All (λ e. stays s e ≡ true) left
  all_stay = all-kept (stays s) s.edges

  all_many : All (λ e. eqb (of_meta (meta e) left) 1 ≡ false) left
  all_many = all_map (λ e r. many e r.0 r.1) left
      (all_two (λ e. (p : Edge → Bool) → p e ≡ true → 0 < count p s.edges) (λ e. stays s e ≡ true) left (all_keep _ (stays s) s.edges (all-has s.edges)) all_stay)

  and_no : (a b : Bool) → b ≡ false → (a && b) ≡ false
  and_no a b e = rw e (and-false a)

  unforced : (g : ℕ) → forced left g ≡ false
  unforced g = none (λ e. eqb (group e) g && eqb (of_meta (meta e) left) 1) left (all_map (λ e h. and_no (eqb (group e) g) (eqb (of_meta (meta e) left) 1) h) left all_many)

  unmarked : All (λ e. mark_forced (pass s) (group e) ≡ false) left
  unfolding pass mark_forced
  unmarked = all_map one left all_stay
    where
      one : (e : Edge) → stays s e ≡ true → mark_forced (pass s) (group e) ≡ false
      one e i = rw (unforced (group e)) (rw (free e i).0 refl)

  still : All (λ e. stays (pass s) e ≡ true) left
  unfolding stays pass cover_marked
  still = all_map one left (all_two (λ e. stays s e ≡ true) (λ e. mark_forced (pass s) (group e) ≡ false) left all_stay unmarked)
    where
      one : (e : Edge) → (stays s e ≡ true) × (mark_forced (pass s) (group e) ≡ false) → stays (pass s) e ≡ true
      one e r =
          let z : some (λ d. eqb (meta d) (meta e) && mark_forced (pass s) (group d)) left ≡ false =
          none (λ d. eqb (meta d) (meta e) && mark_forced (pass s) (group d)) left (all_map (λ d h. and_no (eqb (meta d) (meta e)) (mark_forced (pass s) (group d)) h) left unmarked) in
          rw (r.1, (free e r.0).1, z)

  pub pass-once : pass (pass s) ≡ pass s
  unfolding pass
  pass-once = pass_still (pass s) (length-keep (stays (pass s)) left ∙ count_ext (stays (pass s)) (λ e. true) left still ∙ sym (length-count left))

  pub trim-once : trim s ≡ pass s
  unfolding iter
  trim-once = sym (trim-iter (suc (length s.edges)) s (omega arith)) ∙ iter_fix pass (length s.edges) (pass s) pass-once
