-- The half of the grouping that goes by peptides: proteins by first appearance, and the meta-peptides spread out. Assumes nothing.
use Rattle.std.specs.Prelude.{◌≡◌, List, map, ℕ, ◌+◌, ◌-◌, ◌≤◌, ◌<◌, length, get_or}
use Rattle.std.proofs.Common.{sym, ap, ◌∙◌, inl, zero-add, arith}
use Rattle.std.proofs.Math.Seq.{slice, length-slice}
use Rattle.lists.specs.Lists.{up_from, keep}
use Rattle.lists.specs.KeyLaws.{Under, under_at, under_keep}
use Rattle.sorting_spec.specs.SortLaws.{under_sorted}
use Rattle.sorting_spec.specs.PartLaws.{at_slice, slice-same}
use Rattle.sorting_spec.specs.Runs.{run_numbers}
use Rattle.protein_groups_spec.specs.ProteinGroups.{Pair, taking, edges_from}
use Rattle.protein_groups_spec.specs.PackedGroups.{packed_seen, packed_proteins, packed_metas, packed_evidence}
use Rattle.protein_groups_spec.specs.CountingLaws.{metas_in, groups_in, shown-chosen, all_shown}
use Rattle.protein_groups_spec.specs.LeaderLaws.{le_texts, spread_sorted, spread_under}
use Rattle.protein_groups_spec.specs.WholeLaws.{peptides_of, taking-by, metas_spread, metas-count}
use Rattle.protein_groups_numbering.specs.declared.plan.Plan.{Plan}
use Rattle.protein_groups_numbering.specs.SliceLaws.{slice_long}
use Rattle.protein_groups_numbering.specs.SpreadLaws.{plan_text, keys_to, values_to}
use Rattle.protein_groups_runs.specs.TakerLaws.{has_text}
use Rattle.protein_groups_runs.specs.ThingLaws.{PlanFits}
use Rattle.protein_groups_runs.specs.MetaLaws.{DistinctSpread, takers_by}
use Rattle.protein_groups_tables.specs.PlanLaws.{PlanKeyed, all_keys, all_values, plan_fits}
use Rattle.protein_groups_tables.specs.EvidenceLaws.{Peptides, Evident, found_order, evidence_under}

-- the r proteins stand from 0 on, and the q meta-peptides spread out are t keys and values
pub record Shown (flags : List ℕ) (qs : List Pair) (w : List ℕ) (p : Plan) (r t q : ℕ) : Type 0 where
  pub found : slice 0 r w ≡ packed_proteins flags p.kinds qs
  pub keys : keys_to p t w ≡ metas_in (edges_from 0 (packed_metas (packed_proteins flags p.kinds qs) flags p.kinds qs))
  pub values : values_to p t w ≡ groups_in (edges_from 0 (packed_metas (packed_proteins flags p.kinds qs) flags p.kinds qs))
  pub count : q ≡ length (packed_metas (packed_proteins flags p.kinds qs) flags p.kinds qs)

pub record ByPeptides (w₀ w : List ℕ) (k : ℕ) (p : Plan) (r t q : ℕ) : Type 0 where
  pub few : r ≤ k
  pub entries : t ≤ p.count
  pub under : (i : ℕ) → i < t → get_or w (p.keys + i) 0 < r
  pub between : (j : ℕ) → k + k ≤ j → j < p.things → get_or w j 0 ≡ get_or w₀ j 0
  pub shown : (flags : List ℕ) (qs : List Pair) → all_keys p w₀ ≡ peptides_of qs → all_values p w₀ ≡ map (packed_seen flags) qs → Shown flags qs w p r t q

module _ (w₀ w₁ : List ℕ) (k : ℕ) (p : Plan) (r : ℕ) (l₁ : length w₁ ≡ length w₀) (g : Peptides w₀ k p) (e : Evident w₀ w₁ k p r) where
  abbrev f : PlanKeyed w₀ p
  f = g.keyed

  abbrev m : ℕ
  m = p.kinds

  pub evidence_planned : PlanFits w₁ p p.kinds
  evidence_planned = plan_fits w₀ p f w₁ l₁ e.bounds

  -- the proteins lie within w
  r-fits : r ≤ length w₁
  r-fits = omega (arith, e.few, g.front, evidence_planned.order, evidence_planned.ranks, evidence_planned.bounds, evidence_planned.lists, evidence_planned.keys, evidence_planned.fits)

  r_long : length (found_order p w₀) ≡ r
  r_long = ap length (sym (rw (zero-add r) at e.found)) ∙ length-slice 0 r w₁ r-fits ∙ (let u : r - 0 ≡ r = omega arith in u)

  -- in the words of the definition
  module _ (flags : List ℕ) (qs : List Pair) (ks : all_keys p w₀ ≡ peptides_of qs) (vs : all_values p w₀ ≡ map (packed_seen flags) qs) where
    order-proteins : found_order p w₀ ≡ packed_proteins flags m qs
    unfolding packed_proteins
    order-proteins = rw (ks, vs, all_shown flags qs 0 m)

    text-evidence : (x : ℕ) → x < m → plan_text p w₁ x ≡ packed_evidence (packed_proteins flags m qs) flags qs x
    text-evidence x h = e.texts x h ∙ rw (order-proteins, ks, vs, shown-chosen flags qs x)

    filled-taking : keep (has_text w₁ p.bounds) (up_from 0 m) ≡ taking m qs
    filled-taking = taking-by (has_text w₁ p.bounds) m qs (λ x h. rw (e.bounds x (omega arith), e.bounds (x + 1) (omega arith), ks))

    spread_metas : spread_sorted (plan_text p w₁) (takers_by p w₁) ≡ edges_from 0 (packed_metas (packed_proteins flags m qs) flags m qs)
    spread_metas = rw filled-taking (sym (metas_spread flags m qs (plan_text p w₁) text-evidence))

  module _ (w₂ : List ℕ) (t q : ℕ) (l₂ : length w₂ ≡ length w₁) (d : DistinctSpread w₁ w₂ p t q) where
    all_under : Under r (metas_in (spread_sorted (plan_text p w₁) (takers_by p w₁)))
    all_under =
        spread_under (plan_text p w₁) r m 0 (run_numbers (le_texts (plan_text p w₁)) (takers_by p w₁)) (takers_by p w₁)
        (λ x h. rw r_long at (evidence_under w₀ w₁ k p r x e h))
        (under_sorted m (le_texts (plan_text p w₁)) (keep (has_text w₁ p.bounds) (up_from 0 m)) (under_keep m (has_text w₁ p.bounds) 0 m (omega arith)))

    long_keys : length (keys_to p t w₂) ≡ t
    long_keys = slice_long p.keys t w₂ (omega (arith, d.few, f.keys, f.fits))

    found_same : slice 0 r w₂ ≡ found_order p w₀
    found_same =
        slice-same 0 r w₂ w₁ (omega (arith, r-fits)) r-fits (λ i y v. d.rest i (inl (omega (arith, e.few, g.front))))
        ∙ (rw (zero-add r) at e.found)

    pub by_peptides : ByPeptides w₀ w₂ k p r t q
    by_peptides = record {
      few = e.few;
      entries = d.few;
      under = λ i h. rw (at_slice p.keys (p.keys + t) w₂ i (omega arith)) at (under_at r (keys_to p t w₂) i (rw d.keys all_under) (omega (arith, long_keys)));
      between = λ j h v. d.rest j (inl v) ∙ e.rest j h (inl (omega (arith, f.order, f.ranks)));
      shown = λ flags qs ks vs. record {
        found = found_same ∙ order-proteins flags qs ks vs;
        keys = d.keys ∙ ap metas_in (spread_metas flags qs ks vs);
        values = d.values ∙ ap groups_in (spread_metas flags qs ks vs);
        count = d.count ∙ (rw (filled-taking flags qs ks vs) (sym (metas-count flags m qs (plan_text p w₁) (text-evidence flags qs ks vs))));
      };
    }
