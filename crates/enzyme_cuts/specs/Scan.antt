-- The search for the next cut.
use Rattle.std.specs.Prelude.{ℕ, suc, cond, List, [], ◌∷◌, Option, Some, None}
use Rattle.enzyme_cuts.specs.declared.kinds.Knife.{Knife}
use Rattle.enzyme_cuts.specs.declared.scan.Cut.{Cut}
use Rattle.enzyme_cuts.specs.declared.kinds.Side.{Side}
use Rattle.enzyme_cuts.specs.declared.kinds.Side.TheVariants.{C, N}
use Rattle.enzyme_cuts.specs.Cutting.{cut_of, cuts_at}

-- the next cut, or none
abbrev pub Site : Type 0
Site = Option Cut

abbrev pub cut_site : ℕ → ℕ → Site
cut_site p e = Some (record { place = p; next = e })

-- the first cut of a letter at or behind i, where the letters from i on are given
abbrev pub find_cut : Knife → ℕ → List ℕ → Site
find_cut k i [] = None
find_cut k i (b ∷ bs) = cond (cuts_at k b bs) (cut_site (cut_of k.side i) (suc i)) (find_cut k (suc i) bs)

-- where the letter at i cuts, with next the place behind it
abbrev pub cut_by : Side → ℕ → ℕ → ℕ
cut_by C i next = next
cut_by N i next = i
