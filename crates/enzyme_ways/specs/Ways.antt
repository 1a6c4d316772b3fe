-- The ranges that each way to the digests goes through. The public statement does not cite this.
use Rattle.std.specs.Prelude.{ℕ, List, [], ◌∷◌, length}
use Rattle.letters.specs.Letters.{capitals}
use Rattle.enzyme_cuts.specs.declared.kinds.Kind.{Kind}
use Rattle.enzyme_cuts.specs.declared.kinds.Kind.TheVariants.{None, End, Set}
use Rattle.enzyme_cuts.specs.declared.kinds.Enzyme.{Enzyme}
use Rattle.enzyme_cuts.specs.Cutting.{Range, site, knife, none_sites, meant}
use Rattle.enzyme_keep.specs.declared.offering.Terms.{Terms}
use Rattle.enzyme_tables.specs.Listed.{DigestsListed}
use Rattle.enzyme_once.specs.Once.{each_once}
use Rattle.enzyme_keep.specs.Steps.{Step}

-- all of "none", the whole protein of "end", or each different range of a set once: in none of them a range stands twice
abbrev pub way_of : Kind → Enzyme → ℕ → ℕ → ℕ → List ℕ → List Range
way_of None e missed minimum maximum s = none_sites (length s) minimum maximum
way_of End e missed minimum maximum s = site 0 (length s) ∷ []
way_of (Set cleave) e missed minimum maximum s = each_once (knife cleave e.skip e.side) e.semi missed s

abbrev pub way : Enzyme → ℕ → ℕ → ℕ → List ℕ → List Range
way e missed minimum maximum s = way_of (meant e.kind) e missed minimum maximum s

-- the enzyme that cuts everywhere
abbrev pub everywhere : Enzyme → Enzyme
everywhere e = record { kind = None; skip = e.skip; side = e.side; semi = e.semi }

-- how often a kind is looked at again: an empty set as "none"
abbrev pub looks_again : Kind → ℕ
looks_again None = 0
looks_again End = 0
looks_again (Set cleave) = 1

-- what is listed of letters that are read as capitals
abbrev pub DigestsRead : List ℕ → Enzyme → ℕ → Terms → List ℕ → Step → List ℕ → Type 0
DigestsRead s e missed terms old r new = DigestsListed (capitals s) terms (way e missed terms.minimum terms.maximum (capitals s)) old r new
