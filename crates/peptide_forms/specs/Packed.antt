-- The choices that make forms, and the form of a choice, each site one number as in peptide_slots' Sites: how the code says
-- it. The public statement does not cite this.
use Rattle.std.specs.Prelude.{ℕ, List, [], ◌∷◌, length, get_or}
use Rattle.lists.specs.Lists.{keep}
use Rattle.peptide_choices.specs.Choices.{by_size}
use Rattle.peptide_slots.specs.Filling.{apply}
use Rattle.peptide_forms.specs.Passing.{packed_passes}
use Rattle.peptide_forms.specs.Enumeration.{up_to_cap}

-- the choices that make forms, the empty one first
unfoldable pub packed_choices : List ℕ → List ℕ → ℕ → ℕ → List (List ℕ)
unfolding up_to_cap by_size packed_passes
packed_choices sites rules limit cap = [] ∷ up_to_cap cap 1 (keep (packed_passes sites rules) (by_size (length sites) 1 limit))

-- the sites at the chosen places
unfoldable pub packed_chosen : List ℕ → List ℕ → List ℕ
packed_chosen sites [] = []
packed_chosen sites (k ∷ ks) = get_or sites k 0 ∷ packed_chosen sites ks

-- a form: the chosen variable sites, then the sites of all fixed rules
unfoldable pub packed_form : List ℕ → List ℕ → List ℕ → List ℕ → List ℕ → List ℕ → List ℕ
unfolding apply packed_chosen
packed_form bare sites variable fixedSites fixed c = apply fixed (apply variable bare (packed_chosen sites c)) fixedSites
