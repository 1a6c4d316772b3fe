-- Document 01, "Groups and cover": worked cases, proved of the definitions. A case is the answer's numbers and then each lent slice:
-- work memory, edges, members.
use Rattle.std.specs.Prelude.{ℕ, refl, replicate, Ok, Err}
use mathlib.Core.List.{List, [], ◌∷◌, ◌++◌, flatten, map}
use Rattle.protein_groups_tests.specs.Testing.{first_bad_pair, first_bad_flag}
use Rattle.records.specs.Le.{le, number_at}
use Rattle.records.specs.Cases.{Case, Hold, refused_as}
use Rattle.records.specs.Outcome.{Outcome}
use Rattle.records.specs.Refusals.{number_of, place_of}
use Rattle.records.specs.Room.{written}
use Rattle.records.specs.Search.{seek}
use Rattle.cover_edges.specs.Edges.{edge_bytes}
use Rattle.protein_groups_members.specs.Members.{member_bytes}
use Rattle.protein_groups_spec.specs.ProteinGroups.{proteins, metas, groups_of, grouping}
use Rattle.protein_groups.specs.ProteinGrouping.{Grouped, protein_groups_outcome}

-- groups, meta-peptides, edges, members; refusal 0 is none
abbrev pub made : ℕ → ℕ → ℕ → ℕ → List ℕ
made groups metas edges members = 0 ∷ 0 ∷ groups ∷ metas ∷ edges ∷ members ∷ []

abbrev pub grouped_numbers : Grouped → List ℕ
grouped_numbers (Ok s) = made s.groups s.metas s.edges s.members
grouped_numbers (Err why) = refused_as (number_of why) (place_of why)

abbrev pub grouped_told : Outcome Grouped → List (List ℕ)
grouped_told o = grouped_numbers o.answer ∷ o.lent

pair : ℕ × ℕ → List ℕ
pair q = le 4 q.0 ++ le 4 q.1

member : ℕ → ℕ → ℕ → List ℕ
member group protein decoy = le 4 group ++ (le 4 protein ++ (decoy ∷ 0 ∷ 0 ∷ 0 ∷ []))

-- so many words of work memory that hold 7, so many bytes 170 for edges and 171 for members
call : List ℕ → List ℕ → ℕ → ℕ → ℕ → ℕ → ℕ → List ℕ → List ℕ → List ℕ → List ℕ → Case
call pairs flags peptides proteins words edges members answer work edges' members' = record {
  got = grouped_told (protein_groups_outcome pairs flags peptides proteins (replicate words 7) (replicate edges 170) (replicate members 171));
  want = answer ∷ work ∷ edges' ∷ members' ∷ [];
}

pairs : List (ℕ × ℕ) → List ℕ
pairs qs = flatten (map pair qs)

-- nothing was written
kept : List ℕ → List ℕ → ℕ → ℕ → ℕ → ℕ → ℕ → List ℕ → Case
kept bytes flags peptides proteins words edges members answer = call bytes flags peptides proteins words edges members answer (replicate words 7) (replicate edges 170) (replicate members 171)

p10 : List ℕ
p10 = pairs ((1, 10) ∷ (1, 11) ∷ (2, 10) ∷ (2, 11) ∷ (3, 12) ∷ (3, 10) ∷ [])

flags4 : List ℕ
flags4 = replicate 4 0

-- protein 0 from a target and from a decoy
two : List ℕ
two = pairs ((0, 0) ∷ (1, 0) ∷ [])

pub table : List Case
table =
    -- P10: the groups {11}, {10}, {12}; bytes past the answer stay
    call p10 flags4 4 13 156 33 37 (made 3 2 4 3) (replicate 156 0) (pair (0, 0) ++ (pair (1, 0) ++ (pair (1, 1) ++ (pair (2, 1) ++ (170 ∷ [])))))
    (member 0 11 0 ++ (member 1 10 0 ++ (member 2 12 0 ++ (171 ∷ []))))
    -- one seen from a target and a decoy peptide is two
    ∷ call two (0 ∷ 1 ∷ []) 2 1 28 16 24 (made 2 2 2 2) (replicate 28 0) (pair (0, 0) ++ pair (1, 1)) (member 0 0 0 ++ member 1 0 1)
    -- from two targets it is one, and two meta-peptides of equal evidence are one; more work memory than needed is cleared
    ∷ call two (0 ∷ 0 ∷ []) 2 1 30 8 12 (made 1 1 1 1) (replicate 30 0) (pair (0, 0)) (member 0 0 0)
    -- no pairs: no groups
    ∷ call [] (0 ∷ 1 ∷ []) 2 0 8 1 1 (made 0 0 0 0) (replicate 8 0) (170 ∷ []) (171 ∷ [])
    ∷ call [] [] 0 0 0 0 0 (made 0 0 0 0) [] [] []
    -- 11: no room for the fourth edge, or for the third member; both lists hold what fits
    ∷ call p10 flags4 4 13 156 31 36 (refused_as 11 0) (replicate 156 0) (pair (0, 0) ++ (pair (1, 0) ++ (pair (1, 1) ++ replicate 7 170))) (member 0 11 0 ++ (member 1 10 0 ++ member 2 12 0))
    ∷ call p10 flags4 4 13 156 32 35 (refused_as 11 0) (replicate 156 0) (pair (0, 0) ++ (pair (1, 0) ++ (pair (1, 1) ++ pair (2, 1)))) (member 0 11 0 ++ (member 1 10 0 ++ replicate 11 171))
    -- 1: 262,145 peptides, 65,537 proteins; before 8
    ∷ kept [] [] 262145 0 0 0 0 (refused_as 1 0)
    ∷ kept (0 ∷ []) [] 0 65537 0 0 0 (refused_as 1 0)
    -- 8: a byte more than a pair, a flag too few, a flag too many; before 10
    ∷ kept (0 ∷ two) (0 ∷ 0 ∷ []) 2 1 28 16 24 (refused_as 8 0)
    ∷ kept two (0 ∷ []) 2 1 28 16 24 (refused_as 8 0)
    ∷ kept two (0 ∷ 0 ∷ 0 ∷ []) 2 1 0 16 24 (refused_as 8 0)
    -- 10 with a word too few; before 9
    ∷ kept two (0 ∷ 0 ∷ []) 2 1 27 16 24 (refused_as 10 0)
    ∷ kept two (0 ∷ 2 ∷ []) 2 0 19 16 24 (refused_as 10 0)
    -- 9: at pair 1 no such peptide, or no such protein; at flag 1 a 2, after the pairs
    ∷ kept two (0 ∷ []) 1 1 24 16 24 (refused_as 9 1)
    ∷ kept (pairs ((0, 0) ∷ (1, 1) ∷ [])) (0 ∷ 2 ∷ []) 2 1 28 16 24 (refused_as 9 1)
    ∷ kept (pairs ((0, 1) ∷ (1, 1) ∷ [])) (0 ∷ 2 ∷ []) 2 1 28 16 24 (refused_as 9 0)
    ∷ kept two (0 ∷ 2 ∷ []) 2 1 28 16 24 (refused_as 9 1)
    ∷ []

pub cases : Hold table
unfolding seek flatten number_at written edge_bytes member_bytes first_bad_pair first_bad_flag proteins metas groups_of grouping pair member call pairs kept p10 flags4 two table
cases = refl
