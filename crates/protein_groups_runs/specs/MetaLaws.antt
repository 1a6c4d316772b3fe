-- The distinct texts of m stretches, spread out in order, in a lent slice. Assumes nothing.
use Rattle.std.specs.Prelude.{◌≡◌, List, ℕ, ◌+◌, ◌≤◌, ◌<◌, length, get_or}
use Rattle.std.proofs.Common.{inr, arith}
use Rattle.lists.specs.Lists.{up_from, keep}
use Rattle.lists.specs.FrameLaws.{Framed, framed_then, framed_within}
use Rattle.lists.specs.KeyLaws.{under_keep}
use Rattle.lists.specs.TotalLaws.{total-keep}
use Rattle.sorting_spec.specs.Sort.{sorted}
use Rattle.sorting_spec.specs.PartLaws.{drop-same}
use Rattle.sorting_spec.specs.Runs.{runs_of}
use Rattle.protein_groups_spec.specs.CountingLaws.{metas_in, groups_in}
use Rattle.protein_groups_spec.specs.LeaderLaws.{le_texts, spread_sorted, texts_length}
use Rattle.protein_groups_numbering.specs.declared.plan.Plan.{Plan}
use Rattle.protein_groups_numbering.specs.SpreadLaws.{plan_text, keys_to, values_to}
use Rattle.protein_groups_runs.specs.TakerLaws.{has_text, Takers}
use Rattle.protein_groups_runs.specs.ThingLaws.{PlanFits, Things, Ran, total-up, same-texts}

-- the stretches that are not empty, in the order of their texts
abbrev pub takers_by : Plan → List ℕ → List ℕ
takers_by p w = sorted (le_texts (plan_text p w)) (keep (has_text w p.bounds) (up_from 0 p.kinds))

-- THE RESULT: k keys and values of r runs
pub record DistinctSpread (w₀ w : List ℕ) (p : Plan) (k r : ℕ) : Type 0 where
  pub few : k ≤ p.count
  pub keys : keys_to p k w ≡ metas_in (spread_sorted (plan_text p w₀) (takers_by p w₀))
  pub values : values_to p k w ≡ groups_in (spread_sorted (plan_text p w₀) (takers_by p w₀))
  pub count : r ≡ length (runs_of (le_texts (plan_text p w₀)) (takers_by p w₀))
  pub rest : Framed p.things (p.values + p.count) w₀ w

module _ (w₀ w₁ : List ℕ) (p : Plan) (t : ℕ) (l₁ : length w₁ ≡ length w₀) (g : PlanFits w₀ p p.kinds) (k : Takers w₀ w₁ p.bounds p.kinds p.things t) where
  from : (i : ℕ) → p.bounds ≤ i → get_or w₁ i 0 ≡ get_or w₀ i 0
  from i h = k.rest i (inr (omega (arith, g.order, g.ranks)))

  texts : plan_text p w₁ ≡ plan_text p w₀
  texts = same-texts w₁ w₀ p.bounds p.texts (omega (arith, g.bounds)) (drop-same p.bounds w₁ w₀ l₁ from)

  rises₁ : (j : ℕ) → j < p.kinds → get_or w₁ (p.bounds + j) 0 ≤ get_or w₁ (p.bounds + (j + 1)) 0
  rises₁ j h = rw (from (p.bounds + j) (omega arith), from (p.bounds + (j + 1)) (omega arith)) (g.rises j h)

  ends₁ : get_or w₁ (p.bounds + p.kinds) 0 ≤ p.count
  ends₁ = rw (from (p.bounds + p.kinds) (omega arith)) g.ends

  short : texts_length (plan_text p w₁) (keep (has_text w₀ p.bounds) (up_from 0 p.kinds)) ≤ p.count
  short =
      let e : 0 + p.kinds ≡ p.kinds = omega arith in
      let z = rw e at (total-up w₁ p.bounds p.texts p.kinds 0 p.kinds (omega arith) rises₁) in
      omega (arith, total-keep (λ (n : ℕ). length (plan_text p w₁ n)) (has_text w₀ p.bounds) (up_from 0 p.kinds), ends₁)

  pub taken_things : Things w₁ p t
  taken_things = record {
    tables = record {
      order = omega (arith, g.order, k.few);
      ranks = omega (arith, g.ranks, k.few);
      bounds = g.bounds;
      lists = g.lists;
      keys = g.keys;
      fits = omega (arith, g.fits);
      near = g.near;
      few = omega (arith, k.few, g.few);
      rises = rises₁;
      ends = ends₁;
    };
    inside = rw k.order (under_keep p.kinds (has_text w₀ p.bounds) 0 p.kinds (omega arith));
    most = rw k.order short;
  }

  pub distinct_spread : (w₂ : List ℕ) (q r : ℕ) → Ran w₁ w₂ p t q r → DistinctSpread w₀ w₂ p q r
  distinct_spread w₂ q r s = record {
    few = s.few;
    keys = rw (texts, k.order) at s.keys;
    values = rw (texts, k.order) at s.values;
    count = rw (texts, k.order) at s.count;
    rest =
        framed_then p.things (p.values + p.count) w₀ w₁ w₂
        (framed_within p.things p.things (p.things + p.kinds) (p.values + p.count) w₀ w₁ (omega arith) (omega (arith, g.order, g.ranks, g.bounds, g.lists, g.keys)) k.rest)
        s.rest;
  }
