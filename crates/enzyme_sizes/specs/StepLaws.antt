-- A size of windows, and those behind it. Assumes nothing.
use Rattle.std.specs.Prelude.{ℕ, suc, ◌+◌, ◌-◌, ◌<◌, ◌≡◌, Bool, List, length}
use Rattle.std.proofs.Common.{add-one}
use Rattle.enzyme_keep.specs.declared.offering.Terms.{Terms}
use Rattle.enzyme_weights.specs.Weights.{weight_in}
use Rattle.enzyme_samples.specs.declared.offering.Run.{Run}
use Rattle.enzyme_samples.specs.Ready.{Weighted, RangesReady, Offers}
use Rattle.enzyme_parts.specs.Walk.{sites_in}
use Rattle.enzyme_parts.specs.Weighed.{weigh_owns, weigh_from}
use Rattle.enzyme_parts.specs.WalkLaws.{weigh_sizes-on}
use Rattle.enzyme_parts.specs.Going.{Underway}
use Rattle.enzyme_parts.specs.GoingLaws.{underway_first, underway_on}
use Rattle.enzyme_semi.specs.WeightLaws.{weight_of}
use Rattle.enzyme_sizes.specs.Told.{LevelTold}
use Rattle.enzyme_sizes.specs.ToldLaws.{told-owns}

-- the windows of n + 1 sites are next, and the tables are theirs
module _ (n left : ℕ) {looked : Bool} {ts : List (List ℕ)} {s starts order runs name rank share : List ℕ} {g m : ℕ} (t : LevelTold looked ts s starts order runs name rank share (n + 1) g m)
    {f : List ℕ} {terms : Terms} {all : List Weighted} {run₀ : Run} {out₀ marks₀ : List ℕ} {run : Run} {out marks : List ℕ} (some : 0 < left)
    (u : Underway s f terms all run₀ out₀ marks₀ (weigh_from (weight_of looked ts) n left (sites_in starts m)) run out marks)
  where
    weights : weigh_owns (weight_in order runs rank share g (suc n)) n (sites_in starts m) ≡ weigh_owns (weight_of looked ts n) n (sites_in starts m)
    weights = told-owns ts s starts order runs name rank share n g m looked (rw (add-one n) at t)

    pub step_ready : RangesReady s f (weigh_owns (weight_in order runs rank share g (suc n)) n (sites_in starts m)) run out marks
    step_ready = rw weights (underway_first (weigh_sizes-on (sites_in starts m) n left (weight_of looked ts) some) u)

    pub step_on : {at : Run} {o b : List ℕ} (later : ℕ) → later ≡ left - 1 → Offers s f terms (weigh_owns (weight_in order runs rank share g (suc n)) n (sites_in starts m)) run out marks at o b
        → length o ≡ length out → length b ≡ length marks → Underway s f terms all run₀ out₀ marks₀ (weigh_from (weight_of looked ts) (n + 1) later (sites_in starts m)) at o b
    step_on later e x p q = rw e (underway_on (weigh_sizes-on (sites_in starts m) n left (weight_of looked ts) some) u (rw weights at x) p q)
