-- A plan whose values are sorted by their keys, in a lent slice. Assumes nothing.
use Rattle.std.specs.Prelude.{◌≡◌, List, ℕ, ◌+◌, ◌≤◌, ◌<◌, length, get_or}
use Rattle.std.proofs.Common.{◌∙◌, inl, inr, zero-add, arith}
use Rattle.lists.specs.KeyLaws.{below, below-le, below_most}
use Rattle.sorting_counting.specs.declared.places.Places.{Places}
use Rattle.sorting_counting.specs.KeySorting.{Sortable, KeySorted}
use Rattle.protein_groups_numbering.specs.declared.plan.Plan.{Plan}
use Rattle.protein_groups_numbering.specs.SliceLaws.{slice_long}
use Rattle.protein_groups_numbering.specs.SpreadLaws.{keys_to, values_to}
use Rattle.protein_groups_runs.specs.ThingLaws.{PlanFits}

-- what is asked: the tables stand behind one another, the boundaries are zero, and the keys are in their range
pub record PlanKeyed (w : List ℕ) (p : Plan) : Type 0 where
  pub order : p.things + p.kinds ≤ p.runs
  pub ranks : p.runs + p.kinds ≤ p.bounds
  pub counters : p.bounds + p.kinds + 1 ≤ p.texts
  pub lists : p.texts + p.count ≤ p.keys
  pub keys : p.keys + p.count ≤ p.values
  pub fits : p.values + p.count ≤ length w
  pub near : p.texts < 4294967296
  pub few : p.kinds < 4294967296
  pub short : p.count < 4294967296
  pub zeros : (j : ℕ) → j < p.kinds → get_or w (p.bounds + j) 0 ≡ 0
  pub under : (i : ℕ) → i < p.count → get_or w (p.keys + i) 0 < p.kinds

abbrev pub all_keys : Plan → List ℕ → List ℕ
all_keys p w = keys_to p p.count w

abbrev pub all_values : Plan → List ℕ → List ℕ
all_values p w = values_to p p.count w

-- the values by their keys stand where the texts do
abbrev pub plan_places : Plan → Places
plan_places p = record { keys = p.keys; values = p.values; count = p.count; bounds = p.bounds; kinds = p.kinds; sorted = p.texts }

abbrev pub PlanSorted : Plan → List ℕ → List ℕ → Type 0
PlanSorted p w₀ w = KeySorted (plan_places p) 0 w₀ w

pub sorted_bounds : (p : Plan) (w₀ w : List ℕ) → PlanSorted p w₀ w → (j : ℕ) → j ≤ p.kinds → get_or w (p.bounds + j) 0 ≡ below j (all_keys p w₀)
sorted_bounds p w₀ w s j h = s.bounds j h ∙ zero-add (below j (all_keys p w₀))

module _ (w₀ : List ℕ) (p : Plan) (g : PlanKeyed w₀ p) where
  pub plan_sortable : Sortable (plan_places p) 0 w₀
  plan_sortable = record {
    keys_fit = omega (arith, g.keys, g.fits);
    values_fit = g.fits;
    bounds_fit = omega (arith, g.counters, g.lists, g.keys, g.fits);
    sorted_fit = omega (arith, g.lists, g.keys, g.fits);
    small = omega (arith, g.short);
    apart = inl (omega (arith, g.counters));
    keys_bounds = inr (omega (arith, g.counters, g.lists));
    keys-sorted = inr g.lists;
    values_bounds = inr (omega (arith, g.counters, g.lists, g.keys));
    values_sorted = inr (omega (arith, g.lists, g.keys));
    under = g.under;
    zeros = g.zeros;
  }

  pub keys_long : length (all_keys p w₀) ≡ p.count
  keys_long = slice_long p.keys p.count w₀ (omega (arith, g.keys, g.fits))

  -- where the boundaries count the keys, the plan fits
  pub plan_fits : (w : List ℕ) → length w ≡ length w₀ → ((j : ℕ) → j ≤ p.kinds → get_or w (p.bounds + j) 0 ≡ below j (all_keys p w₀)) → PlanFits w p p.kinds
  plan_fits w len bound = record {
    order = g.order;
    ranks = g.ranks;
    bounds = g.counters;
    lists = g.lists;
    keys = g.keys;
    fits = omega (arith, g.fits);
    near = g.near;
    few = g.few;
    rises = λ j h. omega (arith, bound j (omega arith), bound (j + 1) (omega arith), below-le j (j + 1) (all_keys p w₀) (omega arith));
    ends = omega (arith, bound p.kinds (omega arith), below_most p.kinds (all_keys p w₀), keys_long);
  }
