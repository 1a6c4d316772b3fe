-- Document 01, "Examples": the groups of P10, and further cases that were run against the Rust, proved of the rules.
use Rattle.std.specs.Prelude.{ℕ, refl, length}
use mathlib.Core.List.{List, [], ◌∷◌, ◌++◌, flatten, map}
use Rattle.records.specs.Cases.{Case, Hold}
use Rattle.cover_spec.specs.Cover.{Edge}
use Rattle.protein_groups_members.specs.Members.{Member}
use Rattle.protein_groups_spec.specs.ProteinGroups.{Pair, Groups, proteins, metas, groups_of, grouping}

abbrev pair : ℕ × ℕ → Pair
pair q = record { peptide = q.0; protein = q.1 }

-- a grouping in numbers: how many groups and meta-peptides, its edges, and for each member group, protein and flag
abbrev numbers : Groups → List (List ℕ)
numbers g =
    (g.groups ∷ g.metas ∷ [])
    ∷ map (λ (e : Edge). e.0 ∷ e.1 ∷ []) g.edges
    ++ map (λ (m : Member). m.group ∷ m.protein ∷ m.decoy ∷ []) g.members

groups : List ℕ → List (ℕ × ℕ) → List (List ℕ) → Case
groups flags pairs want = record { got = numbers (grouping flags (length flags) (map pair pairs)); want = want }

pub table : List Case
table =
    -- P10: the groups {11}, {10}, {12}
    groups (0 ∷ 0 ∷ 0 ∷ 0 ∷ []) ((1, 10) ∷ (1, 11) ∷ (2, 10) ∷ (2, 11) ∷ (3, 12) ∷ (3, 10) ∷ [])
    ((3 ∷ 2 ∷ []) ∷ (0 ∷ 0 ∷ []) ∷ (1 ∷ 0 ∷ []) ∷ (1 ∷ 1 ∷ []) ∷ (2 ∷ 1 ∷ []) ∷ (0 ∷ 11 ∷ 0 ∷ []) ∷ (1 ∷ 10 ∷ 0 ∷ []) ∷ (2 ∷ 12 ∷ 0 ∷ []) ∷ [])
    -- a repeat in an evidence stays, and is two edges
    ∷ groups (0 ∷ 0 ∷ []) ((0, 0) ∷ (0, 0) ∷ (0, 1) ∷ (1, 1) ∷ [])
    ((2 ∷ 2 ∷ []) ∷ (0 ∷ 0 ∷ []) ∷ (0 ∷ 0 ∷ []) ∷ (1 ∷ 0 ∷ []) ∷ (1 ∷ 1 ∷ []) ∷ (0 ∷ 0 ∷ 0 ∷ []) ∷ (1 ∷ 1 ∷ 0 ∷ []) ∷ [])
    -- protein 3 seen from a target and a decoy is two
    ∷ groups (0 ∷ 1 ∷ 1 ∷ []) ((1, 3) ∷ (0, 3) ∷ (1, 4) ∷ (0, 3) ∷ (2, 4) ∷ [])
    ((3 ∷ 3 ∷ []) ∷ (0 ∷ 0 ∷ []) ∷ (0 ∷ 0 ∷ []) ∷ (1 ∷ 1 ∷ []) ∷ (2 ∷ 1 ∷ []) ∷ (2 ∷ 2 ∷ []) ∷ (0 ∷ 3 ∷ 0 ∷ []) ∷ (1 ∷ 3 ∷ 1 ∷ []) ∷ (2 ∷ 4 ∷ 1 ∷ []) ∷ [])
    -- no pair, no group
    ∷ groups (0 ∷ 1 ∷ []) [] ((0 ∷ 0 ∷ []) ∷ [])
    -- members 2 and 1 of one group stand in the order of their first appearance
    ∷ groups (1 ∷ 0 ∷ []) ((0, 0) ∷ (0, 2) ∷ (1, 0) ∷ (0, 0) ∷ (0, 0) ∷ (0, 0) ∷ (0, 1) ∷ [])
    ((3 ∷ 2 ∷ []) ∷ (0 ∷ 0 ∷ []) ∷ (1 ∷ 0 ∷ []) ∷ (1 ∷ 0 ∷ []) ∷ (1 ∷ 0 ∷ []) ∷ (1 ∷ 0 ∷ []) ∷ (2 ∷ 1 ∷ [])
    ∷ (0 ∷ 2 ∷ 1 ∷ []) ∷ (0 ∷ 1 ∷ 1 ∷ []) ∷ (1 ∷ 0 ∷ 1 ∷ []) ∷ (2 ∷ 0 ∷ 0 ∷ []) ∷ [])
    ∷ []

pub cases : Hold table
unfolding flatten proteins metas groups_of grouping groups table
cases = refl
