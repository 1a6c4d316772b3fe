-- What a run of sites makes of a form, each site one number as in Sites: how the code says it. The public statement does not
-- cite this.
use Rattle.std.specs.Prelude.{ℕ, List, [], ◌∷◌}
use Rattle.peptide_slots.specs.Hits.{fill_at}
use Rattle.peptide_slots.specs.Sites.{id_at, slot_of, rule_of}

-- a site: its slot takes its rule's id, unless it is filled
abbrev pub fill_site : List ℕ → List ℕ → ℕ → List ℕ
fill_site rules form site = fill_at form (slot_of site) (id_at rules (rule_of site))

-- one site after another
unfoldable pub apply : List ℕ → List ℕ → List ℕ → List ℕ
apply rules form [] = form
apply rules form (site ∷ rest) = apply rules (fill_site rules form site) rest
