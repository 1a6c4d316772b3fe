-- Things given in a lent slice, sorted by their texts, with their runs, and the runs' texts spread out. Assumes nothing.
use Rattle.std.specs.Prelude.{◌≡◌, List, [], ℕ, zero, suc, ◌+◌, ◌-◌, ◌≤◌, ◌<◌, length, get_or, take, drop}
use Rattle.std.proofs.Common.{sym, ap, ◌∙◌, inl, inr, add-sub_of_le, arith, length-drop, length-take}
use Rattle.std.proofs.Math.Seq.{slice}
use Rattle.lists.specs.Lists.{up_from}
use Rattle.lists.specs.FrameLaws.{Framed, framed_then, framed_within}
use Rattle.lists.specs.KeyLaws.{Under, under_at}
use Rattle.sorting_spec.specs.SortLaws.{total-sorted, under_sorted}
use Rattle.sorting_texts.specs.declared.text.By.TheVariants.{Numbers}
use Rattle.sorting_spec.specs.Sort.{sorted}
use Rattle.sorting_texts.specs.Text.{text_by}
use Rattle.sorting_spec.specs.PartLaws.{at_slice, slice-same, drop-same}
use Rattle.sorting_spec.specs.Runs.{runs_of, run_numbers}
use Rattle.protein_groups_spec.specs.CountingLaws.{metas_in, groups_in}
use Rattle.protein_groups_spec.specs.LeaderLaws.{le_texts, spread_sorted, texts_length, spread_most}
use Rattle.protein_groups_numbering.specs.declared.plan.Plan.{Plan}
use Rattle.protein_groups_numbering.specs.SliceLaws.{slice_long}
use Rattle.protein_groups_numbering.specs.SpreadLaws.{text_at, plan_text, things_to, runs_to, keys_to, values_to, spread_of, Spreadable, RunsSpread}
use Rattle.protein_groups_runs.specs.OrderingLaws.{RunsOrdered, text_is}

-- the texts of the stretches i, i + 1, .. are no longer than what is left
pub total-up : (w : List ℕ) (c l m i d : ℕ) → i + d ≤ m → ((j : ℕ) → j < m → get_or w (c + j) 0 ≤ get_or w (c + (j + 1)) 0)
    → texts_length (text_at w c l) (up_from i d) + get_or w (c + i) 0 ≤ get_or w (c + (i + d)) 0
total-up w c l m i zero h g = let u : i + 0 ≡ i = omega arith in rw u (omega arith)
total-up w c l m i (suc d) h g =
    let u : i + suc d ≡ suc i + d = omega arith in
    let v : c + i + 1 ≡ c + (i + 1) = omega arith in
    let z : c + suc i ≡ c + (i + 1) = omega arith in
    let n : length (text_at w c l i) ≤ get_or w (c + (i + 1)) 0 - get_or w (c + i) 0 = rw v (short (l + get_or w (c + i) 0) (l + get_or w (c + (i + 1)) 0) (get_or w (c + (i + 1)) 0 - get_or w (c + i) 0) w (omega (arith, g i (omega arith)))) in
    let r = rw z at (total-up w c l m (suc i) d (omega arith) g) in
    rw u (omega (arith, g i (omega arith)))
  where
    short : (f t e : ℕ) (w : List ℕ) → t - f ≤ e → length (slice f t w) ≤ e
    short f t e w h = omega (arith, length-drop f (take t w), length-take t w)

-- texts depend on what stands from their boundaries on
pub same-texts : (x y : List ℕ) (c l : ℕ) → c ≤ l → drop c x ≡ drop c y → text_at x c l ≡ text_at y c l
same-texts x y c l h e = λ i p. each p i
  where
    at_base : c + (l - c) ≡ l
    at_base = add-sub_of_le h

    each : (p : ℕ) → text_at x c l p ≡ text_at y c l p
    each p = rw at_base at (sym (text_is (l - c) c [] x p) ∙ ap (λ (z : List ℕ). text_by (Numbers (l - c)) [] z p) e ∙ text_is (l - c) c [] y p)

-- the tables of a plan stand behind one another in one slice, with places for t things and for their ranks; the boundaries never fall
pub record PlanFits (w : List ℕ) (p : Plan) (t : ℕ) : Type 0 where
  pub order : p.things + t ≤ p.runs
  pub ranks : p.runs + t ≤ p.bounds
  pub bounds : p.bounds + p.kinds + 1 ≤ p.texts
  pub lists : p.texts + p.count ≤ p.keys
  pub keys : p.keys + p.count ≤ p.values
  pub fits : p.values + p.count ≤ length w
  pub near : p.texts < 4294967296
  pub few : t < 4294967296
  pub rises : (j : ℕ) → j < p.kinds → get_or w (p.bounds + j) 0 ≤ get_or w (p.bounds + (j + 1)) 0
  pub ends : get_or w (p.bounds + p.kinds) 0 ≤ p.count

-- t things, each below the number of kinds
pub record Things (w : List ℕ) (p : Plan) (t : ℕ) : Type 0 where
  pub tables : PlanFits w p t
  pub inside : Under p.kinds (things_to p t w)
  pub most : texts_length (plan_text p w) (things_to p t w) ≤ p.count

abbrev pub sorted_things : Plan → ℕ → List ℕ → List ℕ
sorted_things p t w = sorted (le_texts (plan_text p w)) (things_to p t w)

-- THE RESULT: things in order, their runs' numbers, and k keys and values of r runs
pub record Ran (w₀ w : List ℕ) (p : Plan) (t k r : ℕ) : Type 0 where
  pub few : k ≤ p.count
  pub order : things_to p t w ≡ sorted_things p t w₀
  pub ranks : runs_to p t w ≡ run_numbers (le_texts (plan_text p w₀)) (sorted_things p t w₀)
  pub count : r ≡ length (runs_of (le_texts (plan_text p w₀)) (sorted_things p t w₀))
  pub keys : keys_to p k w ≡ metas_in (spread_sorted (plan_text p w₀) (sorted_things p t w₀))
  pub values : values_to p k w ≡ groups_in (spread_sorted (plan_text p w₀) (sorted_things p t w₀))
  pub rest : Framed p.things (p.values + p.count) w₀ w

module _ (w₀ w₂ : List ℕ) (p : Plan) (t r : ℕ) (l₂ : length w₂ ≡ length w₀) (g : Things w₀ p t) (d : RunsOrdered w₀ w₂ p.things t p.runs p.bounds p.texts r) where
  abbrev f : PlanFits w₀ p t
  f = g.tables

  texts : plan_text p w₂ ≡ plan_text p w₀
  texts = same-texts w₂ w₀ p.bounds p.texts (omega (arith, f.bounds)) (drop-same p.bounds w₂ w₀ l₂ (λ i h. d.rest i (inr h)))

  spread_sorted₂ : spread_of p t w₂ ≡ spread_sorted (plan_text p w₀) (sorted_things p t w₀)
  spread_sorted₂ = rw (texts, d.ranks, d.order)

  long₂ : length (things_to p t w₂) ≡ t
  long₂ = slice_long p.things t w₂ (omega (arith, f.order, f.ranks, f.bounds, f.lists, f.keys, f.fits))

  inside₂ : (j : ℕ) → j < t → get_or w₂ (p.things + j) 0 < p.kinds
  inside₂ j h =
      rw (at_slice p.things (p.things + t) w₂ j (omega arith)) at
      (under_at p.kinds (things_to p t w₂) j (rw d.order (under_sorted p.kinds (le_texts (plan_text p w₀)) (things_to p t w₀) g.inside)) (omega (arith, long₂)))

  bound₂ : (x : ℕ) → x < p.kinds → (get_or w₂ (p.bounds + x) 0 ≤ get_or w₂ (p.bounds + x + 1) 0) × (get_or w₂ (p.bounds + x + 1) 0 ≤ p.count)
  bound₂ x h =
      let u : p.bounds + x + 1 ≡ p.bounds + (x + 1) = omega arith in
      let v : (x + 1) + (p.kinds - (x + 1)) ≡ p.kinds = omega arith in
      let z = rw v at (total-up w₀ p.bounds p.texts p.kinds (x + 1) (p.kinds - (x + 1)) (omega arith) f.rises) in
      rw (u, d.rest (p.bounds + x) (inr (omega arith)), d.rest (p.bounds + (x + 1)) (inr (omega arith))) (f.rises x h, omega (arith, f.ends))

  pub spreadable : Spreadable w₂ p t
  spreadable = record {
    order = omega (arith, f.order, f.ranks, f.bounds, f.lists);
    ranks = omega (arith, f.ranks, f.bounds, f.lists);
    keys = f.keys;
    fits = omega (arith, f.fits);
    few = f.few;
    bounds = λ j h. omega (arith, inside₂ j h, f.bounds, f.lists);
    rises = λ j h. (bound₂ (get_or w₂ (p.things + j) 0) (inside₂ j h)).0;
    ends = λ j h. omega (arith, (bound₂ (get_or w₂ (p.things + j) 0) (inside₂ j h)).1, f.lists);
    room = rw spread_sorted₂ (omega (arith, spread_most (plan_text p w₀) 0 (run_numbers (le_texts (plan_text p w₀)) (sorted_things p t w₀)) (sorted_things p t w₀), total-sorted (λ (n : ℕ). length (plan_text p w₀ n)) (le_texts (plan_text p w₀)) (things_to p t w₀), g.most));
  }

  module _ (w₃ : List ℕ) (q : ℕ) (l₃ : length w₃ ≡ length w₂) (s : RunsSpread w₂ w₃ p t q) where
    -- what stands before the keys is as the sort left it
    before_keys : (a : ℕ) → a + t ≤ p.keys → slice a (a + t) w₃ ≡ slice a (a + t) w₂
    before_keys a h = slice-same a (a + t) w₃ w₂ (omega (arith, f.keys, f.fits)) (omega (arith, f.keys, f.fits)) (λ i y z. s.rest i (inl (omega arith)))

    pub ran : Ran w₀ w₃ p t q r
    ran = record {
      few = s.few;
      order = before_keys p.things spreadable.order ∙ d.order;
      ranks = before_keys p.runs spreadable.ranks ∙ d.ranks;
      count = d.count;
      keys = s.keys ∙ ap metas_in spread_sorted₂;
      values = s.values ∙ ap groups_in spread_sorted₂;
      rest =
          framed_then p.things (p.values + p.count) w₀ w₂ w₃
          (framed_within p.things p.things p.bounds (p.values + p.count) w₀ w₂ (omega arith) (omega (arith, f.bounds, f.lists, f.keys)) d.rest)
          (framed_within p.things p.keys (p.values + p.count) (p.values + p.count) w₂ w₃ (omega (arith, f.order, f.ranks, f.bounds, f.lists)) (omega arith) s.rest);
    }
