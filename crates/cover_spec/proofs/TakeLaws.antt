-- The same cover in fewer steps: one pass, then, while edges remain, the choice and the removal of all edges of its meta-peptides. Assumes nothing.
use Rattle.std.proofs.Math.Bool.{Bool, true, false, not, cond, or-false}
use Rattle.std.specs.Prelude.{◌&&◌, ◌||◌, List, ◌≡◌}
use Prim.Native.Nat.{ℕ, zero, suc, ◌<◌}
use Rattle.std.proofs.Math.Dec.{ltb, eqb}
use Rattle.std.proofs.Math.ListN.{length}
use Rattle.std.proofs.Math.Path.{refl, ap, fun_ext}
use Rattle.std.proofs.Common.{◌∙◌, arith}
use borrow.Author.Tests.{eqb-true, eqb-false, eq-eqb, lt-ltb, not-true}
use Rattle.lists.specs.Tests.{both, neither}
use Rattle.lists.specs.Lists.{count, some, keep, All}
use Rattle.lists.specs.KeepLaws.{all_map, count_ext, keep_all, all-has, all_two, keep_ext}
use Rattle.cover_spec.specs.Cover.{Edge, group, meta, State, forced, mark_forced, cover_marked, stays, pass, trim, choice, mark, no_edges, choose, turn}
use Rattle.cover_spec.specs.TrimLaws.{iter, stay_unmarked, still_forced, trim_settled, trim-trim}
use Rattle.cover_spec.proofs.TurnLaws.{turn-empty, turn-choose}
use Rattle.cover_spec.proofs.CoverLaws.{Visited, visited_trim, visited_turn, chosen}
use Rattle.cover_spec.proofs.OneTrimLaws.{trim-once}

-- the group c takes all its meta-peptides
unfoldable pub takes : List Edge → ℕ → ℕ → Bool
takes l c m = some (λ e. eqb (meta e) m && eqb (group e) c) l

unfoldable pub taken_by : ℕ → State → State
taken_by c s = record {
  edges = keep (λ e. not (takes s.edges c (meta e))) s.edges;
  marked = λ h. eqb h c || s.marked h;
  covered = λ m. s.covered m || takes s.edges c m;
}

-- where nothing is left to trim, the pass after a mark is that
module _ (s : State) (settled : pass s ≡ s) where
  pub unmarked : All (λ e. mark_forced s (group e) ≡ false) s.edges
  unfolding pass
  unmarked = stay_unmarked s (keep_all (stays s) s.edges (ap (λ (t : State). length t.edges) settled))

  pub uncovered : All (λ e. s.covered (meta e) ≡ false) s.edges
  unfolding pass stays cover_marked
  uncovered = all_map (λ e i. (neither (s.covered (meta e)) (some (λ d. eqb (meta d) (meta e) && mark_forced s (group d)) s.edges)
      (not-true (cover_marked s (meta e)) (both (not (mark_forced s (group e))) (not (cover_marked s (meta e))) i).1)).0) s.edges
      (keep_all (stays s) s.edges (ap (λ (t : State). length t.edges) settled))

  module _ (c : ℕ) where
    marks : (h : ℕ) → mark_forced (mark c s) h ≡ (eqb h c || s.marked h)
    unfolding mark_forced mark
    marks h = rw (still_forced s unmarked h) (or-false (eqb h c || s.marked h))

    -- of an edge that remains
    marks-at : (e : Edge) → mark_forced s (group e) ≡ false → mark_forced (mark c s) (group e) ≡ eqb (group e) c
    unfolding mark_forced
    marks-at e i = marks (group e) ∙ rw (neither (s.marked (group e)) (forced s.edges (group e)) i).0 (or-false (eqb (group e) c))

    covers : (m : ℕ) → cover_marked (mark c s) m ≡ (s.covered m || takes s.edges c m)
    unfolding cover_marked mark takes
    covers m =
        ap (λ (k : ℕ). s.covered m || ltb 0 k)
        (count_ext (λ e. eqb (meta e) m && mark_forced (mark c s) (group e)) (λ e. eqb (meta e) m && eqb (group e) c) s.edges
        (all_map (λ e i. ap (λ (b : Bool). eqb (meta e) m && b) (marks-at e i)) s.edges unmarked))

    -- an edge of the group taken is an edge of a meta-peptide taken
    stays_at : (e : Edge) → ((p : Edge → Bool) → p e ≡ true → 0 < count p s.edges) → mark_forced s (group e) ≡ false → s.covered (meta e) ≡ false
        → stays (mark c s) e ≡ not (takes s.edges c (meta e))
    unfolding stays takes
    stays_at e h i j = rw (marks-at e i, covers (meta e), j) (go (eqb (group e) c) refl)
      where
        p : Edge → Bool
        p = λ d. eqb (meta d) (meta e) && eqb (group d) c

        go : (b : Bool) → eqb (group e) c ≡ b → (not b && not (some p s.edges)) ≡ not (some p s.edges)
        go true q = rw (lt-ltb 0 (count p s.edges) (h p (rw (eq-eqb (meta e) (meta e) refl, q))))
        go false q = refl

    pub pass-mark : pass (mark c s) ≡ taken_by c s
    unfolding pass taken_by mark
    pass-mark = λ i. record {
      edges = keep_ext (stays (mark c s)) (λ e. not (takes s.edges c (meta e))) s.edges every i;
      marked = fun_ext marks i;
      covered = fun_ext covers i;
    }
      where
        every : All (λ e. stays (mark c s) e ≡ not (takes s.edges c (meta e))) s.edges
        every = all_map (λ e r. stays_at e r.0 r.1.0 r.1.1) s.edges
            (all_two (λ e. (p : Edge → Bool) → p e ≡ true → 0 < count p s.edges) (λ e. (mark_forced s (group e) ≡ false) × (s.covered (meta e) ≡ false)) s.edges
            (all-has s.edges)
            (all_two (λ e. mark_forced s (group e) ≡ false) (λ e. s.covered (meta e) ≡ false) s.edges unmarked uncovered))

module _ (n : ℕ) (all : List Edge) where
  unfoldable pub take_turn : State → State
  take_turn s = cond (no_edges s) s (taken_by (choice all s.edges n) s)

  trim-turn : (s : State) → Visited n all s → trim (turn all n s) ≡ take_turn (trim s)
  unfolding take_turn choose
  trim-turn s v = go (eqb (length (trim s).edges) 0) refl
    where
      go : (b : Bool) → eqb (length (trim s).edges) 0 ≡ b → trim (turn all n s) ≡ cond b (trim s) (taken_by (choice all (trim s).edges n) (trim s))
      go true i = rw (turn-empty all n s (eqb-true (length (trim s).edges) 0 i)) (trim-trim s)
      go false i =
          let z : 0 < length (trim s).edges = omega (arith, eqb-false (length (trim s).edges) 0 i) in
          ap (λ (t : State). trim t) (turn-choose all n s z)
          ∙ trim-once n all (choose all n (trim s)) (chosen (visited_trim n all s v) (trim_settled s) z)
          ∙ pass-mark (trim s) (trim_settled s) (choice all (trim s).edges n)

  pub trim-turns : (k : ℕ) (s : State) → Visited n all s → trim (iter (turn all n) k s) ≡ iter take_turn k (trim s)
  unfolding iter
  trim-turns zero s v = refl
  trim-turns (suc k) s v = trim-turns k (turn all n s) (visited_turn n all s v) ∙ ap (iter take_turn k) (trim-turn s v)
