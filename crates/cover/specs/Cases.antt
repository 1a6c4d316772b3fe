-- Document 01, "Examples": P8, the cover of P10, P11 and further cases, proved of the definitions. A case is the answer's numbers and then
-- each lent slice, work memory before marks.
use Rattle.std.specs.Prelude.{ℕ, refl, replicate}
use mathlib.Core.List.{List, [], ◌∷◌, ◌++◌, flatten}
use Rattle.records.specs.Le.{le, number_at}
use Rattle.records.specs.Cases.{Case, Hold, answered, refused_as, told}
use Rattle.records.specs.Room.{written}
use Rattle.records.specs.Search.{seek}
use Rattle.cover_spec.specs.Cover.{mark_forced, cover_marked, stays, pass, trim_passes, greatest, mark, choose, turn, turns, cover, listed, cover_list}
use Rattle.cover_edges.specs.Edges.{edges_to, first_bad_edge, first_bad_mark}
use Rattle.cover_spec.specs.Update.{reached, touched, update, update_list}
use Rattle.cover.specs.Covering.{cover_outcome}
use Rattle.cover.specs.Updating.{update_outcome}

-- an edge's record
edge : ℕ → ℕ → List ℕ
edge group meta = le 4 group ++ le 4 meta

-- so many words of work memory that hold 7, and so many bytes 170 for marks
covering : List (List ℕ) → ℕ → ℕ → ℕ → ℕ → List ℕ → List ℕ → List ℕ → Case
covering edges groups metas words room answer work marks = record {
  got = told (cover_outcome (flatten edges) groups metas (replicate words 7) (replicate room 170));
  want = answer ∷ work ∷ marks ∷ [];
}

updating : List (List ℕ) → List (List ℕ) → ℕ → ℕ → List ℕ → ℕ → ℕ → List ℕ → List ℕ → List ℕ → Case
updating old new groups metas given words room answer work marks = record {
  got = told (update_outcome (flatten old) (flatten new) groups metas given (replicate words 7) (replicate room 170));
  want = answer ∷ work ∷ marks ∷ [];
}

-- P11's edges
before : List (List ℕ)
before = edge 0 0 ∷ edge 1 0 ∷ edge 2 1 ∷ edge 3 1 ∷ []

after : List (List ℕ)
after = edge 0 0 ∷ edge 1 0 ∷ edge 2 1 ∷ edge 3 1 ∷ edge 0 2 ∷ []

pub table : List Case
table =
    -- P8: at equality the highest number
    covering (edge 0 0 ∷ edge 1 0 ∷ []) 2 1 24 2 (answered 2) (replicate 24 0) (0 ∷ 1 ∷ [])
    -- P8, with (0, 0) twice; there is more work memory and more room than needed
    ∷ covering (edge 0 0 ∷ edge 0 0 ∷ edge 1 0 ∷ []) 2 1 31 3 (answered 2) (replicate 31 0) (1 ∷ 0 ∷ 170 ∷ [])
    -- P10: the groups {11}, {10}, {12}
    ∷ covering (edge 0 0 ∷ edge 1 0 ∷ edge 1 1 ∷ edge 2 1 ∷ []) 3 2 44 3 (answered 3) (replicate 44 0) (0 ∷ 1 ∷ 0 ∷ [])
    -- group 2 holds the only edge of 0; then 0 and 1 have one edge left, and 0 had more
    ∷ covering (edge 2 0 ∷ edge 2 1 ∷ edge 0 1 ∷ edge 0 2 ∷ edge 1 2 ∷ []) 3 3 54 3 (answered 3) (replicate 54 0) (1 ∷ 0 ∷ 1 ∷ [])
    -- two parts, a choice in each
    ∷ covering (edge 0 0 ∷ edge 1 0 ∷ edge 2 1 ∷ edge 3 1 ∷ []) 4 2 48 4 (answered 4) (replicate 48 0) (0 ∷ 1 ∷ 0 ∷ 1 ∷ [])
    -- no edges; no groups
    ∷ covering [] 2 1 12 2 (answered 2) (replicate 12 0) (0 ∷ 0 ∷ [])
    ∷ covering [] 0 0 1 1 (answered 0) (0 ∷ []) (170 ∷ [])
    -- 11: the first marks, and work memory of zeros
    ∷ covering (edge 0 0 ∷ edge 1 0 ∷ []) 2 1 24 1 (refused_as 11 0) (replicate 24 0) (0 ∷ [])
    -- 9: a meta-peptide, a group
    ∷ covering (edge 0 0 ∷ edge 1 1 ∷ []) 2 1 24 0 (refused_as 9 1) (replicate 24 7) []
    ∷ covering (edge 2 0 ∷ edge 1 1 ∷ []) 2 1 24 2 (refused_as 9 0) (replicate 24 7) (170 ∷ 170 ∷ [])
    -- 10 before 9
    ∷ covering (edge 2 0 ∷ edge 1 1 ∷ []) 2 1 23 2 (refused_as 10 0) (replicate 23 7) (170 ∷ 170 ∷ [])
    -- 8 before 10
    ∷ covering (edge 2 0 ∷ (1 ∷ []) ∷ []) 2 1 2 1 (refused_as 8 0) (7 ∷ 7 ∷ []) (170 ∷ [])
    -- 1 before 8: groups, meta-peptides
    ∷ covering ((1 ∷ []) ∷ []) 131073 1 2 1 (refused_as 1 0) (7 ∷ 7 ∷ []) (170 ∷ [])
    ∷ covering ((1 ∷ []) ∷ []) 1 262145 2 1 (refused_as 1 0) (7 ∷ 7 ∷ []) (170 ∷ [])
    -- P11: the part of 0 and 1 is touched, the part of 2 and 3 is not
    ∷ updating before after 4 3 (0 ∷ 1 ∷ 0 ∷ 1 ∷ []) 82 4 (answered 4) (replicate 82 0) (1 ∷ 0 ∷ 0 ∷ 1 ∷ [])
    ∷ updating before after 4 3 (0 ∷ 1 ∷ 1 ∷ 0 ∷ []) 82 4 (answered 4) (replicate 82 0) (1 ∷ 0 ∷ 1 ∷ 0 ∷ [])
    -- the same edges the other way: an edge that only the old list has touches too; more work memory and more room than needed
    ∷ updating after before 4 3 (1 ∷ 0 ∷ 1 ∷ 0 ∷ []) 83 5 (answered 4) (replicate 83 0) (0 ∷ 1 ∷ 1 ∷ 0 ∷ 170 ∷ [])
    -- (0, 1) joins both parts in the old list alone: both are touched
    ∷ updating (edge 0 1 ∷ before) before 4 2 (1 ∷ 0 ∷ 0 ∷ 0 ∷ []) 78 4 (answered 4) (replicate 78 0) (0 ∷ 1 ∷ 0 ∷ 1 ∷ [])
    -- the same edges in another order: nothing is touched, and the marks given stay, cover or not
    ∷ updating (edge 0 0 ∷ edge 1 0 ∷ []) (edge 1 0 ∷ edge 0 0 ∷ []) 2 1 (1 ∷ 1 ∷ []) 36 2 (answered 2) (replicate 36 0) (1 ∷ 1 ∷ [])
    -- (0, 0) twice, then once
    ∷ updating (edge 0 0 ∷ edge 0 0 ∷ edge 1 0 ∷ []) (edge 0 0 ∷ edge 1 0 ∷ []) 2 1 (1 ∷ 0 ∷ []) 42 2 (answered 2) (replicate 42 0) (0 ∷ 1 ∷ [])
    -- no groups
    ∷ updating [] [] 0 0 [] 1 1 (answered 0) (0 ∷ []) (170 ∷ [])
    -- 11: the first marks, and work memory of zeros
    ∷ updating before after 4 3 (0 ∷ 1 ∷ 1 ∷ 0 ∷ []) 82 3 (refused_as 11 0) (replicate 82 0) (1 ∷ 0 ∷ 1 ∷ [])
    -- 9: the old edges before the new ones, those before the marks
    ∷ updating (edge 0 0 ∷ edge 2 0 ∷ []) (edge 2 0 ∷ []) 2 1 (2 ∷ 0 ∷ []) 30 2 (refused_as 9 1) (replicate 30 7) (170 ∷ 170 ∷ [])
    ∷ updating (edge 0 0 ∷ []) (edge 1 0 ∷ edge 0 0 ∷ edge 0 1 ∷ []) 2 1 (2 ∷ 0 ∷ []) 36 2 (refused_as 9 2) (replicate 36 7) (170 ∷ 170 ∷ [])
    ∷ updating (edge 0 0 ∷ []) (edge 1 0 ∷ []) 2 1 (0 ∷ 2 ∷ []) 24 0 (refused_as 9 1) (replicate 24 7) []
    -- 10 before 9: old and new edges count
    ∷ updating (edge 2 0 ∷ []) (edge 1 0 ∷ []) 2 1 (0 ∷ 2 ∷ []) 23 2 (refused_as 10 0) (replicate 23 7) (170 ∷ 170 ∷ [])
    -- 8 before 10: old edges, new edges, marks
    ∷ updating ((1 ∷ []) ∷ []) [] 2 1 (0 ∷ 1 ∷ []) 2 1 (refused_as 8 0) (7 ∷ 7 ∷ []) (170 ∷ [])
    ∷ updating [] ((1 ∷ []) ∷ []) 2 1 (0 ∷ 1 ∷ []) 2 1 (refused_as 8 0) (7 ∷ 7 ∷ []) (170 ∷ [])
    ∷ updating [] [] 2 1 (0 ∷ []) 2 1 (refused_as 8 0) (7 ∷ 7 ∷ []) (170 ∷ [])
    -- 1 before 8: groups, meta-peptides
    ∷ updating ((1 ∷ []) ∷ []) [] 131073 1 [] 2 1 (refused_as 1 0) (7 ∷ 7 ∷ []) (170 ∷ [])
    ∷ updating ((1 ∷ []) ∷ []) [] 1 262145 [] 2 1 (refused_as 1 0) (7 ∷ 7 ∷ []) (170 ∷ [])
    ∷ []

pub cases : Hold table
unfolding seek number_at flatten written mark_forced cover_marked stays pass trim_passes greatest mark choose turn turns cover listed cover_list edges_to first_bad_edge first_bad_mark reached touched update update_list edge covering updating before after table
cases = refl
