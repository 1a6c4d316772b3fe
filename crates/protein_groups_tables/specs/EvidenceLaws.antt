-- The evidence of each key, in a lent slice: by key, numbered, sorted. Assumes nothing.
use Rattle.std.specs.Prelude.{◌≡◌, Bool, true, ◌&&◌, List, [], ◌∷◌, map, ℕ, suc, ◌+◌, ◌-◌, ◌≤◌, ◌<◌, ltb, leb, length, get_or}
use Rattle.std.proofs.Common.{ap, ◌∙◌, inl, inr, add-one, arith, lt-ltb, le-leb}
use Rattle.std.proofs.Math.Seq.{slice}
use Rattle.lists.specs.FrameLaws.{Out}
use Rattle.lists.specs.FirstLaws.{first_at, first_ones, firsts-all, all_of_key, under_places}
use Rattle.lists.specs.KeyLaws.{Under, by_keys, of_key, below, below-le, below_most, under_of, under_at, under_by-keys}
use Rattle.sorting_spec.specs.SortLaws.{under_sorted}
use Rattle.records.specs.Outcome.{Outcome, outcome}
use Rattle.sorting_texts.specs.declared.text.By.TheVariants.{Itself}
use Rattle.sorting_spec.specs.Sort.{sorted}
use Rattle.sorting_spec.specs.PartLaws.{at_slice, slice-same, slice_mapped}
use Rattle.sorting.specs.Each.{sorted_to, each_outcome}
use Rattle.sorting.specs.EachLaws.{StretchesGiven, EachSorted, each-sorted}
use Rattle.protein_groups_spec.specs.ProteinGroups.{up}
use Rattle.protein_groups_numbering.specs.KnowingLaws.{AllNumbered}
use Rattle.protein_groups_numbering.specs.declared.plan.Plan.{Plan}
use Rattle.protein_groups_numbering.specs.SliceLaws.{slice_long}
use Rattle.protein_groups_numbering.specs.SpreadLaws.{plan_text}
use Rattle.protein_groups_runs.specs.TakerLaws.{bound}
use Rattle.protein_groups_tables.specs.PlanLaws.{PlanKeyed, PlanSorted, all_keys, all_values, sorted_bounds, keys_long}

-- what the half by peptides asks: the found go from 0 on, their table from k on, and then come the tables of the plan
pub record Peptides (w : List ℕ) (k : ℕ) (p : Plan) : Type 0 where
  pub keyed : PlanKeyed w p
  pub front : k + k ≤ p.things
  pub small : k < 4294967296
  pub table : (x : ℕ) → x < k → get_or w (k + x) 0 ≡ 0
  pub below : (i : ℕ) → i < p.count → get_or w (p.values + i) 0 < k

-- the values by key, each of them once by first appearance
abbrev pub found_order : Plan → List ℕ → List ℕ
found_order p w = first_ones [] (by_keys 0 p.kinds (all_keys p w) (all_values p w))

pub record Evident (w₀ w : List ℕ) (k : ℕ) (p : Plan) (r : ℕ) : Type 0 where
  pub few : r ≤ k
  pub found : slice 0 (0 + r) w ≡ found_order p w₀
  pub bounds : (j : ℕ) → j ≤ p.kinds → get_or w (p.bounds + j) 0 ≡ below j (all_keys p w₀)
  pub texts : (x : ℕ) → x < p.kinds → plan_text p w x ≡ sorted up (map (λ (y : ℕ). first_at y (found_order p w₀)) (of_key x (all_keys p w₀) (all_values p w₀)))
  pub rest : (j : ℕ) → k + k ≤ j → Out j p.bounds (p.keys + p.count) → get_or w j 0 ≡ get_or w₀ j 0

module _ (w₀ w₁ : List ℕ) (k : ℕ) (p : Plan) (l₁ : length w₁ ≡ length w₀) (g : Peptides w₀ k p) (s : PlanSorted p w₀ w₁) where
  abbrev f : PlanKeyed w₀ p
  f = g.keyed

  abbrev ks : List ℕ
  ks = all_keys p w₀

  abbrev vs : List ℕ
  vs = all_values p w₀

  -- all tables but the found and their table lie within w
  inside : (p.texts + p.count ≤ length w₀) × (k + k ≤ p.bounds)
  inside = (omega (arith, f.lists, f.keys, f.fits), omega (arith, g.front, f.order, f.ranks))

  long_vs : length vs ≡ p.count
  long_vs = slice_long p.values p.count w₀ f.fits

  vs_under : Under k vs
  vs_under = under_of k vs (λ i h. let u : i < p.count = omega (arith, long_vs) in rw (at_slice p.values (p.values + p.count) w₀ i (omega arith)) (g.below i u))

  -- what numbering asks
  pub table-zero : (x : ℕ) → x < k → get_or w₁ (k + x) 0 ≡ 0
  table-zero x h = s.rest (k + x) (inl (omega (arith, inside.1))) (inl (omega (arith, inside.1, f.counters))) ∙ g.table x h

  pub all-below : (i : ℕ) → i < p.count → get_or w₁ (p.texts + i) 0 < k
  all-below i h =
      let u : length (slice p.texts (p.texts + p.count) w₁) ≡ p.count = slice_long p.texts p.count w₁ (omega (arith, inside.0)) in
      rw (at_slice p.texts (p.texts + p.count) w₁ i (omega arith)) at (under_at k (slice p.texts (p.texts + p.count) w₁) i (rw s.values (under_by-keys k 0 p.kinds ks vs vs_under)) (omega arith))

  module _ (w₂ : List ℕ) (r : ℕ) (l₂ : length w₂ ≡ length w₁) (d : AllNumbered w₁ w₂ 0 k k p.texts p.count r) where
    bound_is : (j : ℕ) → j ≤ p.kinds → bound w₂ p.bounds j ≡ below j ks
    bound_is j h = d.rest (p.bounds + j) (inr (omega (arith, inside.1))) (inl (omega (arith, f.counters))) ∙ sorted_bounds p w₀ w₁ s j h

    -- what sorting the stretches asks
    pub evidence_stretched : StretchesGiven w₂ p.bounds p.kinds p.texts p.count p.keys (p.keys + p.count)
    evidence_stretched = record {
      bounds = inl (omega (arith, f.counters));
      lists = f.lists;
      scratch = omega arith;
      keys = omega (arith, f.keys, f.fits);
      rises = λ i h. omega (arith, bound_is i (omega arith), bound_is (i + 1) (omega arith), below-le i (i + 1) ks (omega arith));
      ends = omega (arith, bound_is p.kinds (omega arith), below_most p.kinds ks, keys_long w₀ p f);
    }

    module _ (w₃ : List ℕ) (q : Bool) (letters : List ℕ) (l₃ : length w₃ ≡ length w₂) (told : outcome q (w₃ ∷ []) ≡ each_outcome Itself letters p.bounds p.texts p.keys (p.keys + p.count) p.kinds w₂) where
      stands : (ltb (p.bounds + p.kinds) (length w₂) && leb p.texts (length w₂)) ≡ true
      stands = rw (lt-ltb (p.bounds + p.kinds) (length w₂) (omega (arith, f.counters, inside.0)), le-leb p.texts (length w₂) (omega (arith, inside.0)))

      exit : w₃ ≡ sorted_to Itself letters p.bounds p.texts p.keys (p.keys + p.count) p.kinds w₂
      exit = let h : w₃ ∷ [] ≡ sorted_to Itself letters p.bounds p.texts p.keys (p.keys + p.count) p.kinds w₂ ∷ [] = ap (λ (x : Outcome Bool). x.lent) (rw stands at told) in cc

      t : EachSorted Itself letters w₂ w₃ p.bounds p.kinds p.texts p.count p.keys (p.keys + p.count)
      t = rw exit (each-sorted Itself letters w₂ p.bounds p.kinds p.texts p.count p.keys (p.keys + p.count) evidence_stretched).1

      all_found : first_ones [] (slice p.texts (p.texts + p.count) w₁) ≡ found_order p w₀
      all_found = ap (first_ones []) s.values

      text-go : (x : ℕ) → x < p.kinds → plan_text p w₃ x ≡ sorted up (map (λ (y : ℕ). first_at y (found_order p w₀)) (of_key x ks vs))
      text-go x h =
          let u : p.bounds + x + 1 ≡ p.bounds + (x + 1) = omega arith in
          let e : get_or w₃ (p.bounds + x) 0 ≡ bound w₂ p.bounds x = t.rest (p.bounds + x) (inl (omega (arith, f.counters))) in
          let e' : get_or w₃ (p.bounds + x + 1) 0 ≡ bound w₂ p.bounds (x + 1) = rw u (t.rest (p.bounds + (x + 1)) (inl (omega (arith, f.counters)))) in
          let top : below (x + 1) ks ≤ p.count = omega (arith, below_most (x + 1) ks, keys_long w₀ p f) in
          let v : x + 1 ≡ suc x = add-one x in
          let e₁ : plan_text p w₃ x ≡ slice (p.texts + bound w₂ p.bounds x) (p.texts + bound w₂ p.bounds (x + 1)) w₃ = rw (e, e') in
          let e₂ : slice (p.texts + bound w₂ p.bounds x) (p.texts + bound w₂ p.bounds (x + 1)) w₂ ≡ slice (p.texts + below x ks) (p.texts + below (x + 1) ks) w₂ = rw (bound_is x (omega arith), bound_is (x + 1) (omega arith)) in
          let e₃ : slice (p.texts + below x ks) (p.texts + below (x + 1) ks) w₂ ≡ map (λ (y : ℕ). first_at y (first_ones [] (slice p.texts (p.texts + p.count) w₁))) (slice (p.texts + below x ks) (p.texts + below (x + 1) ks) w₁) =
          slice_mapped (λ (y : ℕ). first_at y (first_ones [] (slice p.texts (p.texts + p.count) w₁))) (p.texts + below x ks) (p.texts + below (x + 1) ks) w₂ w₁
          (omega (arith, inside.0)) (omega (arith, inside.0))
          (λ i y q. let z : p.texts + (i - p.texts) ≡ i = omega arith in rw z at (d.each (i - p.texts) (omega arith))) in
          let e₄ : slice (p.texts + below x ks) (p.texts + below (x + 1) ks) w₁ ≡ of_key x ks vs = rw v (s.parts x h) in
          e₁ ∙ t.each x h
          ∙ ap (sorted up)
          (e₂ ∙ e₃
          ∙ ap (map (λ (y : ℕ). first_at y (first_ones [] (slice p.texts (p.texts + p.count) w₁)))) e₄
          ∙ ap (λ (o : List ℕ). map (λ (y : ℕ). first_at y o) (of_key x ks vs)) all_found)

      rest-go : (j : ℕ) → k + k ≤ j → Out j p.bounds (p.keys + p.count) → get_or w₃ j 0 ≡ get_or w₀ j 0
      rest-go j h (inl y) = t.rest j (inl (omega (arith, f.counters))) ∙ d.rest j (inr h) (inl (omega (arith, f.counters))) ∙ s.rest j (inl y) (inl (omega (arith, f.counters)))
      rest-go j h (inr y) = t.rest j (inr y) ∙ d.rest j (inr h) (inr (omega (arith, f.lists))) ∙ s.rest j (inr (omega (arith, f.counters, f.lists))) (inr (omega (arith, f.lists)))

      pub evident : Evident w₀ w₃ k p r
      evident = record {
        few = d.few;
        found =
            slice-same 0 (0 + r) w₃ w₂ (omega (arith, d.few, inside, f.counters)) (omega (arith, d.few, inside, f.counters)) (λ i y q. t.rest i (inl (omega (arith, d.few, inside, f.counters))))
            ∙ d.found
            ∙ all_found;
        bounds = λ j h. t.rest (p.bounds + j) (inl (omega (arith, f.counters))) ∙ bound_is j h;
        texts = text-go;
        rest = rest-go;
      }

-- THE LAW: the numbers of each evidence are below how many proteins there are
pub evidence_under : (w₀ w : List ℕ) (k : ℕ) (p : Plan) (r x : ℕ) → Evident w₀ w k p r → x < p.kinds → Under (length (found_order p w₀)) (plan_text p w x)
evidence_under w₀ w k p r x e h =
    rw (e.texts x h)
    (under_sorted (length (found_order p w₀)) up (map (λ (y : ℕ). first_at y (found_order p w₀)) (of_key x (all_keys p w₀) (all_values p w₀)))
    (under_places (found_order p w₀) (of_key x (all_keys p w₀) (all_values p w₀))
    (all_of_key (found_order p w₀) x 0 p.kinds (all_keys p w₀) (all_values p w₀) (firsts-all [] (by_keys 0 p.kinds (all_keys p w₀) (all_values p w₀))) (omega arith) (omega arith))))
