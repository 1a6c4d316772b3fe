-- A turn of a loop that offers ranges. Assumes nothing.
use Rattle.std.specs.Prelude.{ℕ, ◌≡◌, refl, List, [], ◌∷◌, ◌++◌, length}
use Rattle.std.proofs.Common.{◌∙◌}
use Rattle.enzyme_keep.specs.declared.offering.Terms.{Terms}
use Rattle.enzyme_samples.specs.declared.offering.Run.{Run}
use Rattle.enzyme_samples.specs.Ready.{Weighted, RangesReady, Offers}
use Rattle.enzyme_samples.specs.ReadyLaws.{LeadsTo, ready_first, leads_end, leads-on}
use Rattle.enzyme_parts.specs.Walk.{NextUp}
use Rattle.enzyme_parts.specs.Going.{Underway}

pub underway_start : {s f : List ℕ} {t : Terms} {all : List Weighted} {run : Run} {out marks : List ℕ} → RangesReady s f all run out marks → Underway s f t all run out marks all run out marks
underway_start h = record { long_out = refl; long_marks = refl; ready = h; ahead = λ a o m x. x }

module _ {s f : List ℕ} {t : Terms} {all : List Weighted} {run₀ : Run} {out₀ marks₀ : List ℕ} {rest : List Weighted} {run : Run} {out marks : List ℕ} where
  pub underway_end : rest ≡ [] → Underway s f t all run₀ out₀ marks₀ rest run out marks → Offers s f t all run₀ out₀ marks₀ run out marks
  underway_end e g = leads_end (rw e at g.ahead)

  -- xs are next
  module _ {xs ys : List Weighted} (e : NextUp rest xs ys) (g : Underway s f t all run₀ out₀ marks₀ rest run out marks) where
    now_ready : RangesReady s f (xs ++ ys) run out marks
    now_ready = rw e.is at g.ready

    now_ahead : LeadsTo s f t (Offers s f t all run₀ out₀ marks₀) (xs ++ ys) run out marks
    now_ahead = rw e.is at g.ahead

    pub underway_first : RangesReady s f xs run out marks
    underway_first = ready_first xs ys now_ready

    pub underway_on : {at : Run} {o m : List ℕ} → Offers s f t xs run out marks at o m → length o ≡ length out → length m ≡ length marks
        → Underway s f t all run₀ out₀ marks₀ ys at o m
    underway_on x p q = record { long_out = p ∙ g.long_out; long_marks = q ∙ g.long_marks; ready = x.next ys now_ready; ahead = leads-on xs ys now_ahead x }

  -- one range is next
  module _ {r : Weighted} {ys : List Weighted} (e : rest ≡ r ∷ ys) (g : Underway s f t all run₀ out₀ marks₀ rest run out marks) where
    next : NextUp rest (r ∷ []) ys
    next = record { is = e }

    pub range-first : RangesReady s f (r ∷ []) run out marks
    range-first = underway_first next g

    pub range-on : {at : Run} {o m : List ℕ} → Offers s f t (r ∷ []) run out marks at o m → length o ≡ length out → length m ≡ length marks
        → Underway s f t all run₀ out₀ marks₀ ys at o m
    range-on = underway_on next g
