-- The half of the grouping that goes by proteins: their lists of meta-peptides sorted, and the groups spread out. Assumes nothing.
use Rattle.std.specs.Prelude.{◌≡◌, List, [], ◌∷◌, ◌++◌, ℕ, suc, ◌+◌, ◌≤◌, ◌<◌, length, get_or, set}
use Rattle.std.proofs.Common.{ap, ◌∙◌, inl, inr, zero-add, add-one, arith}
use Rattle.std.proofs.Math.Seq.{slice, slice_empty}
use Rattle.lists.specs.Lists.{up_from}
use Rattle.lists.specs.FrameLaws.{Framed, framed_none, framed_then, framed_set}
use Rattle.lists.specs.RowLaws.{up-snoc}
use Rattle.lists.specs.KeyLaws.{of_key, below, below_most, under_up}
use Rattle.sorting_spec.specs.Sort.{sorted}
use Rattle.sorting_spec.specs.PartLaws.{slice-same, slice_set}
use Rattle.sorting_spec.specs.Runs.{runs_of, run_numbers}
use Rattle.protein_groups_spec.specs.CountingLaws.{metas_in, groups_in}
use Rattle.protein_groups_spec.specs.LeaderLaws.{le_texts, spread_sorted, texts_length}
use Rattle.protein_groups_numbering.specs.declared.plan.Plan.{Plan}
use Rattle.protein_groups_numbering.specs.SpreadLaws.{plan_text, things_to, runs_to, keys_to, values_to}
use Rattle.protein_groups_runs.specs.ThingLaws.{PlanFits, Things, Ran, total-up}
use Rattle.protein_groups_tables.specs.PlanLaws.{PlanKeyed, PlanSorted, all_keys, all_values, sorted_bounds, keys_long, plan_fits}

-- ---- numbers in a row

-- w is w₀ with 0, 1, .. , i numbers from o on; what stands from o + n on is as it was
pub record Rowed (w₀ w : List ℕ) (o n i : ℕ) : Type 0 where
  pub row : slice o (o + i) w ≡ up_from 0 i
  pub rest : Framed o (o + n) w₀ w

pub row_none : (w : List ℕ) (o n : ℕ) → Rowed w w o n 0
row_none w o n = record { row = (let u : o + 0 ≡ o = omega arith in rw u (slice_empty o w)); rest = framed_none o (o + n) w }

pub row_more : (w₀ w : List ℕ) (o n i : ℕ) → i < n → o + n ≤ length w → Rowed w₀ w o n i → Rowed w₀ (set w (o + i) i) o n (i + 1)
row_more w₀ w o n i h fits p = record {
  row =
      (let u : o + (i + 1) ≡ suc (o + i) = omega arith in
      rw (u, add-one i, up-snoc 0 i, zero-add i, slice_set o (o + i) i w (omega arith) (omega arith))
      (ap (λ (l : List ℕ). l ++ (i ∷ [])) p.row));
  rest = framed_then o (o + n) w₀ w (set w (o + i) i) p.rest (framed_set o (o + n) (o + i) i w (omega arith) (omega arith));
}

-- ---- the half

-- the proteins sorted by their lists of keys, their groups, and the groups' lists spread out, e keys with the groups as values
pub record ByProteins (w₀ w : List ℕ) (p : Plan) (e g : ℕ) : Type 0 where
  pub text : ℕ → List ℕ
  pub lists : (x : ℕ) → x < p.kinds → text x ≡ of_key x (all_keys p w₀) (all_values p w₀)
  pub few : e ≤ p.count
  pub order : things_to p p.kinds w ≡ sorted (le_texts text) (up_from 0 p.kinds)
  pub ranks : runs_to p p.kinds w ≡ run_numbers (le_texts text) (sorted (le_texts text) (up_from 0 p.kinds))
  pub count : g ≡ length (runs_of (le_texts text) (sorted (le_texts text) (up_from 0 p.kinds)))
  pub keys : keys_to p e w ≡ metas_in (spread_sorted text (sorted (le_texts text) (up_from 0 p.kinds)))
  pub values : values_to p e w ≡ groups_in (spread_sorted text (sorted (le_texts text) (up_from 0 p.kinds)))
  pub before : (j : ℕ) → j < p.things → get_or w j 0 ≡ get_or w₀ j 0

module _ (w₀ w₁ w₂ : List ℕ) (p : Plan) (l₁ : length w₁ ≡ length w₀) (l₂ : length w₂ ≡ length w₁) (g : PlanKeyed w₀ p) (d : PlanSorted p w₀ w₁) (s : Rowed w₁ w₂ p.things p.kinds p.kinds) where
  abbrev ks : List ℕ
  ks = all_keys p w₀

  from : (i : ℕ) → p.bounds ≤ i → get_or w₂ i 0 ≡ get_or w₁ i 0
  from i h = s.rest i (inr (omega (arith, g.order, g.ranks)))

  bound : (j : ℕ) → j ≤ p.kinds → get_or w₂ (p.bounds + j) 0 ≡ below j ks
  bound j h = from (p.bounds + j) (omega arith) ∙ sorted_bounds p w₀ w₁ d j h

  tables₂ : PlanFits w₂ p p.kinds
  tables₂ = plan_fits w₀ p g w₂ (l₂ ∙ l₁) bound

  short : texts_length (plan_text p w₂) (up_from 0 p.kinds) ≤ p.count
  short =
      let e : 0 + p.kinds ≡ p.kinds = omega arith in
      let z = rw e at (total-up w₂ p.bounds p.texts p.kinds 0 p.kinds (omega arith) tables₂.rises) in
      omega (arith, tables₂.ends)

  pub row_things : Things w₂ p p.kinds
  row_things = record { tables = tables₂; inside = rw s.row (under_up p.kinds 0 p.kinds (omega arith)); most = rw s.row short }

  lists-go : (x : ℕ) → x < p.kinds → plan_text p w₂ x ≡ of_key x (all_keys p w₀) (all_values p w₀)
  lists-go x h =
      let u : p.bounds + x + 1 ≡ p.bounds + (x + 1) = omega arith in
      let v : x + 1 ≡ suc x = add-one x in
      let top : below (suc x) ks ≤ p.count = omega (arith, below_most (suc x) ks, keys_long w₀ p g) in
      let e : plan_text p w₂ x ≡ slice (p.texts + below x ks) (p.texts + below (suc x) ks) w₂ = rw (u, bound x (omega arith), bound (x + 1) (omega arith), v) in
      e
      ∙ slice-same (p.texts + below x ks) (p.texts + below (suc x) ks) w₂ w₁ (omega (arith, g.lists, g.keys, g.fits)) (omega (arith, g.lists, g.keys, g.fits))
      (λ i y z. from i (omega (arith, g.counters)))
      ∙ d.parts x h

  pub by-proteins : (w₃ : List ℕ) (e q : ℕ) → Ran w₂ w₃ p p.kinds e q → ByProteins w₀ w₃ p e q
  by-proteins w₃ e q r = record {
    text = plan_text p w₂;
    lists = lists-go;
    few = r.few;
    order = rw s.row at r.order;
    ranks = rw s.row at r.ranks;
    count = rw s.row at r.count;
    keys = rw s.row at r.keys;
    values = rw s.row at r.values;
    before = λ j h. r.rest j (inl h) ∙ s.rest j (inl h) ∙ d.rest j (inl (omega (arith, g.order, g.ranks))) (inl (omega (arith, g.order, g.ranks, g.counters)));
  }
