-- What the three ways to digests have in common: what is written, and the answer. The public statement does not cite this.
use Rattle.std.specs.Prelude.{ℕ, ◌≡◌, List}
use Rattle.enzyme_cuts.specs.Cutting.{Range}
use Rattle.enzyme_keep.specs.declared.offering.Terms.{Terms}
use Rattle.enzyme_keep.specs.Steps.{Step, after, offers, among}

-- the ranges rs of s, none of which stands twice, were offered to the buffer out: that gave r, and left new. A record says how many of
-- them have its letters
abbrev pub DigestsListed : List ℕ → Terms → List Range → List ℕ → Step → List ℕ → Type 0
DigestsListed s t rs out r new = after r new ≡ offers s t (among s rs) rs 0 out
