-- A loop that offers ranges: where it stands. The public statement does not cite this.
use Rattle.std.specs.Prelude.{ℕ, ◌≡◌, List, length}
use Rattle.enzyme_keep.specs.declared.offering.Terms.{Terms}
use Rattle.enzyme_samples.specs.declared.offering.Run.{Run}
use Rattle.enzyme_samples.specs.Ready.{Weighted, RangesReady, Offers}
use Rattle.enzyme_samples.specs.ReadyLaws.{LeadsTo}

-- the ranges `rest` are ahead, of all that the loop began with at run₀
pub record Underway (s f : List ℕ) (t : Terms) (all : List Weighted) (run₀ : Run) (out₀ marks₀ : List ℕ) (rest : List Weighted) (run : Run) (out marks : List ℕ) : Type 0 where
  pub long_out : length out ≡ length out₀
  pub long_marks : length marks ≡ length marks₀
  pub ready : RangesReady s f rest run out marks
  pub ahead : LeadsTo s f t (Offers s f t all run₀ out₀ marks₀) rest run out marks
