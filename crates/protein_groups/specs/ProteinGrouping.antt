-- What a call of `group_proteins` answers, and what its work memory and its two lists hold then.
use Rattle.std.specs.Prelude.{ℕ, ◌≡◌, cond, ◌&&◌, List, [], ◌∷◌, map, length, replicate, Result, Ok, Err}
use Rattle.records.specs.declared.refusal.Refusal.{Refusal}
use Rattle.records.specs.declared.refusal.Refusal.TheVariants.{Room}
use Rattle.records.specs.Outcome.{Outcome, outcome, unless_refused, only}
use Rattle.records.specs.Room.{fits, fitted}
use Rattle.cover_edges.specs.Edges.{edge_bytes}
use Rattle.protein_groups_members.specs.Members.{member_bytes}
use Rattle.protein_groups_spec.specs.ProteinGroups.{pairs_in, Groups, grouping}
use Rattle.protein_groups_tests.specs.Testing.{tested}
use Rattle.protein_groups.specs.declared.grouping.Sizes.{Sizes}

-- what it answers, or why not
abbrev pub Grouped : Type 0
Grouped = Result Sizes Refusal

abbrev pub sizes_of : Groups → Sizes
sizes_of g = record { groups = g.groups; metas = g.metas; edges = length g.edges; members = length g.members }

-- how many groups, meta-peptides, edges and members there are, or 11: one of the two lists has no room; the work memory zero, and of
-- both lists the first that fit
abbrev pub proteins_grouped : Groups → List ℕ → List ℕ → List ℕ → Outcome Grouped
proteins_grouped g work edges members =
    let es = map edge_bytes g.edges in
    let ms = map member_bytes g.members in
    outcome (cond (fits 8 1048576 edges es && fits 12 131072 members ms) (Ok (sizes_of g)) (Err Room))
    (replicate (length work) 0 ∷ fitted 8 1048576 edges es ∷ fitted 12 131072 members ms ∷ [])

abbrev pub protein_groups_outcome : List ℕ → List ℕ → ℕ → ℕ → List ℕ → List ℕ → List ℕ → Outcome Grouped
protein_groups_outcome pairs flags peptides proteins work edges members =
    unless_refused (tested pairs flags peptides proteins (length work)) Err (work ∷ edges ∷ members ∷ [])
    (proteins_grouped (grouping flags peptides (pairs_in pairs)) work edges members)

-- no second answer and no second contents meet the contract of `group_proteins`
pub protein-groups_only : (pairs flags : List ℕ) (peptides proteins : ℕ) (work edges members : List ℕ) (r q : Grouped) (k l : List (List ℕ))
    → outcome r k ≡ protein_groups_outcome pairs flags peptides proteins work edges members → outcome q l ≡ protein_groups_outcome pairs flags peptides proteins work edges members → (r ≡ q) × (k ≡ l)
protein-groups_only pairs flags peptides proteins work edges members r q k l = only r q k l (protein_groups_outcome pairs flags peptides proteins work edges members)
