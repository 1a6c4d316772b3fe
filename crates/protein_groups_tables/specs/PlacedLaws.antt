-- The two halves make the grouping. Assumes nothing.
use Rattle.std.specs.Prelude.{◌≡◌, List, map, ℕ, ◌+◌, ◌-◌, ◌*◌, ◌<◌, get_or}
use Rattle.std.proofs.Math.Path.{sym, ap}
use Rattle.std.proofs.Common.{◌∙◌, zero-add}
use native.Mathlib.Omega.{arith}
use Rattle.std.proofs.Math.ListN.{length}
use Rattle.std.proofs.lemmas.List.{length-map}
use Rattle.std.proofs.Math.Seq.{slice, length-slice}
use Rattle.protein_groups_spec.specs.Rows.{standing_edge, standing_member}
use Rattle.sorting_spec.specs.RunLaws.{length-numbers}
use Rattle.lists.specs.Lists.{up_from}
use Rattle.lists.specs.RowLaws.{length_up}
use Rattle.lists.specs.KeyLaws.{Under, under_at, under_up}
use Rattle.sorting_spec.specs.Sort.{sorted}
use Rattle.sorting_spec.specs.SortLaws.{length-sorted, under_sorted}
use Rattle.sorting_spec.specs.PartLaws.{at_slice}
use Rattle.sorting_spec.specs.Runs.{run_numbers}
use Rattle.cover_spec.specs.Cover.{Edge}
use Rattle.protein_groups_spec.specs.ProteinGroups.{Pair, Groups, list_from}
use Rattle.protein_groups_spec.specs.PackedGroups.{packed_seen, packed_proteins, packed_metas, packed_member, packed_grouping}
use Rattle.protein_groups_spec.specs.CountingLaws.{metas_in, groups_in, list_chosen}
use Rattle.protein_groups_spec.specs.LeaderLaws.{le_texts, spread_sorted, walk_sorted}
use Rattle.protein_groups_spec.specs.WholeLaws.{peptides_of, row_alike, whole-packed}
use Rattle.protein_groups_spec.specs.ReadingLaws.{read-edges, read_walk}
use Rattle.protein_groups_numbering.specs.SliceLaws.{slice_long}
use Rattle.protein_groups_tables.specs.PlanLaws.{PlanKeyed}
use Rattle.protein_groups_tables.specs.EvidenceLaws.{Peptides}
use Rattle.protein_groups_tables.specs.PeptideLaws.{ByPeptides}
use Rattle.protein_groups_tables.specs.ProteinLaws.{ByProteins}
use Rattle.protein_groups_tables.specs.Placed.{keys_at, values_at, peptide_plan, protein_plan, Placeable, GroupingPlaced, GroupingFits}

module _ (w₀ : List ℕ) (k m n : ℕ) (g : Placeable w₀ k m n) where
  abbrev a : ℕ
  a = keys_at k m n

  abbrev b : ℕ
  b = values_at k m n

  -- what the first half asks
  pub peptides_asked : Peptides w₀ k (peptide_plan k m n)
  peptides_asked = record {
    keyed = record {
      order = omega arith;
      ranks = omega arith;
      counters = omega arith;
      lists = omega arith;
      keys = omega arith;
      fits = g.fits;
      near = omega (arith, g.proteins, g.peptides);
      few = omega (arith, g.peptides);
      short = omega (arith, g.few);
      zeros = λ i h. g.zeros (4 * k + 2 + 2 * m + i) (omega arith);
      under = g.keys;
    };
    front = omega arith;
    small = omega (arith, g.proteins);
    table = λ x h. g.zeros (k + x) (omega arith);
    below = g.values;
  }

  module _ (w₁ : List ℕ) (r t q : ℕ) (l₁ : length w₁ ≡ length w₀) (p : ByPeptides w₀ w₁ k (peptide_plan k m n) r t q) where
    -- what the second half asks
    pub proteins-asked : PlanKeyed w₁ (protein_plan k m n r t)
    proteins-asked = record {
      order = omega (arith, p.few);
      ranks = omega (arith, p.few);
      counters = omega (arith, p.few);
      lists = omega (arith, p.entries);
      keys = omega (arith, p.entries);
      fits = omega (arith, p.entries, g.fits);
      near = omega (arith, g.proteins, g.peptides);
      few = omega (arith, p.few, g.proteins);
      short = omega (arith, p.entries, g.few);
      zeros = λ i h. p.between (3 * k + i) (omega arith) (omega (arith, p.few)) ∙ g.zeros (3 * k + i) (omega (arith, p.few));
      under = p.under;
    }

    module _ (w₂ : List ℕ) (e u : ℕ) (l₂ : length w₂ ≡ length w₁) (d : ByProteins w₁ w₂ (protein_plan k m n r t) e u) where
      abbrev text : ℕ → List ℕ
      text = d.text

      abbrev those : List ℕ
      those = sorted (le_texts d.text) (up_from 0 r)

      long_those : length those ≡ r
      long_those = length-sorted (le_texts text) (up_from 0 r) ∙ length_up 0 r

      those_under : Under r those
      those_under = under_sorted r (le_texts text) (up_from 0 r) (under_up r 0 r (omega arith))

      inside : (j : ℕ) → j < r → get_or w₂ (k + j) 0 < r
      inside j h =
          rw (at_slice k (k + r) w₂ j (omega arith)) at
          (under_at r (slice k (k + r) w₂) j (rw d.order those_under) (omega (arith, ap length d.order, long_those)))

      pub grouping-fits : GroupingFits w₂ k n e r
      grouping-fits = record {
        few_edges = omega (arith, d.few, p.entries);
        few_members = p.few;
        shown = λ j h. omega (arith, inside j h, p.few, g.fits);
      }

      -- the edges, read back
      long_keys : length (slice a (a + e) w₂) ≡ e
      long_keys = slice_long a e w₂ (omega (arith, d.few, p.entries, g.fits))

      long_spread : length (spread_sorted text those) ≡ e
      long_spread = sym (length-map (spread_sorted text those) (λ (x : Edge). x.1)) ∙ sym (ap length d.keys) ∙ long_keys

      edge_at : (i : ℕ) → i < e → standing_edge w₂ a b i ≡ (get_or (groups_in (spread_sorted text those)) i 0, get_or (metas_in (spread_sorted text those)) i 0)
      edge_at i h =
          let x : get_or w₂ (b + i) 0 ≡ get_or (groups_in (spread_sorted text those)) i 0 = sym (at_slice b (b + e) w₂ i (omega arith)) ∙ ap (λ (z : List ℕ). get_or z i 0) d.values in
          let y : get_or w₂ (a + i) 0 ≡ get_or (metas_in (spread_sorted text those)) i 0 = sym (at_slice a (a + e) w₂ i (omega arith)) ∙ ap (λ (z : List ℕ). get_or z i 0) d.keys in
          cc

      edges-read : map (standing_edge w₂ a b) (up_from 0 e) ≡ spread_sorted text those
      edges-read =
          row_alike (standing_edge w₂ a b) (λ (i : ℕ). (get_or (groups_in (spread_sorted text those)) i 0, get_or (metas_in (spread_sorted text those)) i 0)) 0 e (λ i h. edge_at i (rw zero-add at h))
          ∙ (rw long_spread at (read-edges (spread_sorted text those)))

      -- the members, read back
      module _ (ps : List ℕ) (found : slice 0 r w₁ ≡ ps) where
        member-at : (j : ℕ) → j < r → standing_member w₂ k (2 * k) j ≡ packed_member ps (get_or (run_numbers (le_texts text) those) j 0) (get_or those j 0)
        member-at j h =
            let x : get_or w₂ (2 * k + j) 0 ≡ get_or (run_numbers (le_texts text) those) j 0 = sym (at_slice (2 * k) (2 * k + r) w₂ j (omega arith)) ∙ ap (λ (z : List ℕ). get_or z j 0) d.ranks in
            let y : get_or w₂ (k + j) 0 ≡ get_or those j 0 = sym (at_slice k (k + r) w₂ j (omega arith)) ∙ ap (λ (z : List ℕ). get_or z j 0) d.order in
            let v : get_or w₂ (get_or w₂ (k + j) 0) 0 ≡ get_or ps (get_or w₂ (k + j) 0) 0 =
            d.before (get_or w₂ (k + j) 0) (omega (arith, inside j h, p.few))
            ∙ sym (at_slice 0 r w₁ (get_or w₂ (k + j) 0) (omega (arith, inside j h)) ∙ rw zero-add)
            ∙ ap (λ (z : List ℕ). get_or z (get_or w₂ (k + j) 0) 0) found in
            rw (x, v, y)

        members_read : map (standing_member w₂ k (2 * k)) (up_from 0 r) ≡ walk_sorted text (packed_member ps) those
        members_read =
            row_alike (standing_member w₂ k (2 * k)) (λ (j : ℕ). packed_member ps (get_or (run_numbers (le_texts text) those) j 0) (get_or those j 0)) 0 r (λ j h. member-at j (rw zero-add at h))
            ∙ (rw (length-numbers (le_texts text) those ∙ long_those) at (read_walk (packed_member ps) (run_numbers (le_texts text) those) those (length-numbers (le_texts text) those)))

      pub grouping-placed : (flags : List ℕ) (qs : List Pair) → slice a (a + n) w₀ ≡ peptides_of qs → slice b (b + n) w₀ ≡ map (packed_seen flags) qs
          → GroupingPlaced flags qs w₂ k m n u q e r
      unfolding packed_grouping
      grouping-placed flags qs ks vs =
          let x = p.shown flags qs ks vs in
          let long : length (packed_proteins flags m qs) ≡ r = ap length (sym x.found) ∙ length-slice 0 r w₁ (omega (arith, p.few, g.fits)) ∙ (let z : r - 0 ≡ r = omega arith in z) in
          let h : (j : ℕ) → j < length (packed_proteins flags m qs) → d.text j ≡ list_from 0 (packed_metas (packed_proteins flags m qs) flags m qs) j =
          λ j y. d.lists j (omega arith) ∙ rw (x.keys, x.values) (sym (list_chosen j 0 (packed_metas (packed_proteins flags m qs) flags m qs))) in
          let all = rw long at (whole-packed (packed_proteins flags m qs) (packed_metas (packed_proteins flags m qs) flags m qs) d.text h) in
          record {
            edges_are = edges-read ∙ sym (ap (λ (z : Groups). z.edges) all);
            members_are = members_read (packed_proteins flags m qs) x.found ∙ sym (ap (λ (z : Groups). z.members) all);
            groups_are = d.count ∙ sym (ap (λ (z : Groups). z.groups) all);
            metas_are = x.count ∙ sym (ap (λ (z : Groups). z.metas) all);
          }
