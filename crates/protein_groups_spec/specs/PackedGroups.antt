-- How the code says the grouping: a protein seen from a peptide of a flag is one number, twice the protein's and the flag. The public
-- statement does not cite this; PackingLaws says that it is the grouping of ProteinGroups.
use Rattle.std.specs.Prelude.{ℕ, suc, ◌+◌, ◌*◌, ◌/◌, ◌%◌, length, get_or}
use mathlib.Core.List.{List, [], ◌∷◌, ◌++◌, flatten, map}
use Rattle.lists.specs.FirstLaws.{first_at, first_ones}
use Rattle.lists.specs.Lists.{up_from, keep, same}
use Rattle.sorting_spec.specs.Sort.{sorted}
use Rattle.sorting_spec.specs.Distinct.{distinct}
use Rattle.protein_groups_members.specs.Members.{Member}
use Rattle.protein_groups_spec.specs.ProteinGroups.{Pair, pairs_of, taking, up, list_from, edges_from, Groups}

-- a protein's number twice, and one more from a decoy
abbrev pub packed_seen : List ℕ → Pair → ℕ
packed_seen flags q = q.protein * 2 + get_or flags q.peptide 0

abbrev pub packed_shown : List ℕ → List Pair → ℕ → List ℕ
packed_shown flags qs p = map (packed_seen flags) (pairs_of qs p)

unfoldable pub packed_proteins : List ℕ → ℕ → List Pair → List ℕ
unfolding flatten
packed_proteins flags peptides qs = first_ones [] (flatten (map (packed_shown flags qs) (up_from 0 peptides)))

abbrev pub packed_evidence : List ℕ → List ℕ → List Pair → ℕ → List ℕ
packed_evidence ps flags qs p = sorted up (map (λ (k : ℕ). first_at k ps) (packed_shown flags qs p))

unfoldable pub packed_metas : List ℕ → List ℕ → ℕ → List Pair → List (List ℕ)
packed_metas ps flags peptides qs = distinct (map (packed_evidence ps flags qs) (taking peptides qs))

-- the list of meta-peptides of each protein, by its number
abbrev pub lists : List (List ℕ) → ℕ → List (List ℕ)
lists ms n = map (list_from 0 ms) (up_from 0 n)

-- the member of the protein with number k
abbrev pub packed_member : List ℕ → ℕ → ℕ → Member
packed_member ps g k = record { group = g; protein = get_or ps k 0 / 2; decoy = get_or ps k 0 % 2 }

abbrev pub packed_members : List ℕ → List (List ℕ) → ℕ → List (List ℕ) → List Member
packed_members ps ms g [] = []
packed_members ps ms g (l ∷ ls) =
    map (packed_member ps g) (keep (λ (k : ℕ). same (list_from 0 ms k) l) (up_from 0 (length ps))) ++ packed_members ps ms (suc g) ls

unfoldable pub packed_groups : List ℕ → List (List ℕ) → Groups
packed_groups ps ms =
    let ls = distinct (lists ms (length ps)) in
    record { edges = edges_from 0 ls; members = packed_members ps ms 0 ls; groups = length ls; metas = length ms }

unfoldable pub packed_grouping : List ℕ → ℕ → List Pair → Groups
packed_grouping flags peptides qs =
    let ps = packed_proteins flags peptides qs in
    packed_groups ps (packed_metas ps flags peptides qs)
