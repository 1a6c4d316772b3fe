-- The update of marks from the old edges to the new ones: join both lists; a connected part is touched if some edge of it stands a
-- different number of times in the two; groups of touched parts get the mark of the cover of the new edges, every other group keeps
-- the mark given.
use Rattle.std.specs.Prelude.{Bool, not, ◌||◌, cond, List, ◌++◌, ℕ, zero, suc, eqb, length, get_or}
use Rattle.lists.specs.Lists.{bit, count, some, keep}
use Rattle.cover_spec.specs.Cover.{Edge, group, meta, cover, listed, same_edge}

-- the edge shares its group or its meta-peptide with one of the list
abbrev pub meets : List Edge → Edge → Bool
meets l e = some (λ d. eqb (group d) (group e) || eqb (meta d) (meta e)) l

-- what so many steps from group g reach: its edges, then those that share a group or a meta-peptide with one of them, and so on
unfoldable pub reached : ℕ → List Edge → ℕ → List Edge
reached zero all g = keep (λ e. eqb (group e) g) all
reached (suc k) all g = keep (meets (reached k all g)) all

-- the edges of the connected part that holds group g: no more are reached after as many steps as there are edges
abbrev pub part_of : List Edge → ℕ → List Edge
part_of all g = reached (length all) all g

-- the edge stands a different number of times in the two lists
abbrev pub differs : List Edge → List Edge → Edge → Bool
differs old new e = not (eqb (count (same_edge e) old) (count (same_edge e) new))

unfoldable pub touched : List Edge → List Edge → ℕ → Bool
touched old new g = some (differs old new) (part_of (old ++ new) g)

unfoldable pub update : ℕ → List Edge → List Edge → (ℕ → Bool) → ℕ → Bool
update n old new marks g = cond (touched old new g) (cover n new g) (marks g)

-- the marks as a list, 1 or 0 for each group
unfoldable pub update_list : ℕ → List Edge → List Edge → List ℕ → List ℕ
update_list n old new marks = listed n (λ g. bit (update n old new (λ h. eqb (get_or marks h 0) 1) g))
