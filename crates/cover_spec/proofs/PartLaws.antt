-- A pass inside a closed set of groups and meta-peptides depends on the edges inside it alone. Assumes nothing.
use Rattle.std.specs.Prelude.{Bool, ◌&&◌, ◌||◌, List, ℕ, ◌≡◌}
use Rattle.std.proofs.Math.Bool.{true}
use Rattle.std.proofs.Math.Dec.{ltb, eqb}
use Rattle.std.proofs.Math.Path.{sym, ap}
use Rattle.std.proofs.Common.{◌∙◌, eqb-true}
use Rattle.lists.specs.Lists.{count, All}
use Rattle.lists.specs.Tests.{and_within, guard, inside}
use Rattle.lists.specs.KeepLaws.{all_map, all_keep, count_ext, count-keep}
use Rattle.cover_spec.specs.Cover.{Edge, group, meta, of_meta, State, forced, mark_forced, cover_marked, stays, pass}

-- ---- the relation: t is the part of s inside the set

module _ (sg sm : ℕ → Bool) where
  abbrev pub Closed : List Edge → Type 0
  Closed l = All (λ e. sg (group e) ≡ sm (meta e)) l

  pub record Part (s t : State) : Type 0 where
    pub closed : Closed s.edges
    pub edges : (p : Edge → Bool) → count (λ e. sg (group e) && p e) s.edges ≡ count p t.edges
    pub marks : (g : ℕ) → sg g ≡ true → s.marked g ≡ t.marked g
    pub covers : (m : ℕ) → sm m ≡ true → s.covered m ≡ t.covered m

  module _ (s t : State) (h : Part s t) where
    pub part-of_meta : (m : ℕ) → sm m ≡ true → of_meta m s.edges ≡ of_meta m t.edges
    part-of_meta m i =
        count_ext (λ e. eqb (meta e) m) (λ e. sg (group e) && eqb (meta e) m) s.edges
        (all_map (λ e c. and_within (sg (group e)) (eqb (meta e) m) (λ q. c ∙ ap sm (eqb-true _ _ q) ∙ i)) s.edges h.closed)
        ∙ h.edges (λ e. eqb (meta e) m)

    part-forced : (g : ℕ) → sg g ≡ true → forced s.edges g ≡ forced t.edges g
    part-forced g i =
        ap (λ (n : ℕ). ltb 0 n)
        (count_ext (λ e. eqb (group e) g && eqb (of_meta (meta e) s.edges) 1) (λ e. sg (group e) && (eqb (group e) g && eqb (of_meta (meta e) t.edges) 1)) s.edges
        (all_map (λ e c. guard (sg (group e)) (eqb (group e) g) _ _ (λ q.
        let k : sg (group e) ≡ true = ap sg (eqb-true _ _ q) ∙ i in
        (k, ap (λ (n : ℕ). eqb n 1) (part-of_meta (meta e) (sym c ∙ k))))) s.edges h.closed)
        ∙ h.edges (λ e. eqb (group e) g && eqb (of_meta (meta e) t.edges) 1))

    part-marks : (g : ℕ) → sg g ≡ true → mark_forced s g ≡ mark_forced t g
    unfolding mark_forced
    part-marks g i = rw (h.marks g i, part-forced g i)

    part-covers : (m : ℕ) → sm m ≡ true → cover_marked s m ≡ cover_marked t m
    unfolding cover_marked
    part-covers m i =
        rw (h.covers m i) (ap (λ (n : ℕ). t.covered m || ltb 0 n)
        (count_ext (λ e. eqb (meta e) m && mark_forced s (group e)) (λ e. sg (group e) && (eqb (meta e) m && mark_forced t (group e))) s.edges
        (all_map (λ e c. guard (sg (group e)) (eqb (meta e) m) _ _ (λ q.
        let k : sg (group e) ≡ true = c ∙ ap sm (eqb-true _ _ q) ∙ i in
        (k, part-marks (group e) k))) s.edges h.closed)
        ∙ h.edges (λ e. eqb (meta e) m && mark_forced t (group e))))

    part_stays : (e : Edge) → sg (group e) ≡ sm (meta e) → sg (group e) ≡ true → stays s e ≡ stays t e
    unfolding stays
    part_stays e c k = rw (part-marks (group e) k, part-covers (meta e) (sym c ∙ k))

    pub part-pass : Part (pass s) (pass t)
    unfolding pass
    part-pass = record {
      closed = all_keep _ (stays s) s.edges h.closed;
      edges = λ p.
          count-keep (λ e. sg (group e) && p e) (stays s) s.edges
          ∙ count_ext (λ e. stays s e && (sg (group e) && p e)) (λ e. sg (group e) && (stays t e && p e)) s.edges
          (all_map (λ e c. inside (sg (group e)) (stays s e) (p e) (stays t e) (part_stays e c)) s.edges h.closed)
          ∙ h.edges (λ e. stays t e && p e)
          ∙ sym (count-keep p (stays t) t.edges);
      marks = part-marks;
      covers = part-covers;
    }
