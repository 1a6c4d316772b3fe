-- Tables of cases that hold, as one. Assumes nothing.
use Rattle.std.specs.Prelude.{ℕ, refl, List, [], ◌∷◌, ◌++◌, map}
use Rattle.std.proofs.Common.{sym, ap, ◌∙◌}
use Rattle.std.proofs.lemmas.List.{map-append}
use Rattle.records.specs.Cases.{Case, got_of, want_of, Hold}

-- two lists of cases that hold are one
pub joined : (cs ds : List Case) → Hold cs → Hold ds → Hold (cs ++ ds)
joined cs ds p q =
    map-append got_of cs ds
    ∙ ap (λ (x : List (List (List ℕ))). x ++ map got_of ds) p
    ∙ ap (λ (x : List (List (List ℕ))). map want_of cs ++ x) q
    ∙ sym (map-append want_of cs ds)

-- a table of cases that hold, and tables as one
pub record Table : Type 0 where
  pub cases : List Case
  pub hold : Hold cases

abbrev pub holding : (cs : List Case) → Hold cs → Table
holding cs h = record { cases = cs; hold = h }

pub all_of : List Table → Table
all_of [] = record { cases = []; hold = refl }
all_of (t ∷ ts) =
    let rest : Table = all_of ts in
    record { cases = t.cases ++ rest.cases; hold = joined t.cases rest.cases t.hold rest.hold }
