-- Document 01, "Examples": P8, the cover of P10, P11 and further cases as lists of marks, proved of the rules.
use Rattle.std.specs.Prelude.{ℕ, refl, List, [], ◌∷◌}
use Rattle.records.specs.Cases.{Case, Hold}
use Rattle.cover_spec.specs.Cover.{Edge, mark_forced, cover_marked, stays, pass, trim_passes, greatest, mark, choose, turn, turns, cover, listed, cover_list}
use Rattle.cover_spec.specs.Update.{reached, touched, update, update_list}

covering : ℕ → List Edge → List ℕ → Case
covering groups edges marks = record { got = cover_list groups edges ∷ []; want = marks ∷ [] }

updating : ℕ → List Edge → List Edge → List ℕ → List ℕ → Case
updating groups old new marks after = record { got = update_list groups old new marks ∷ []; want = after ∷ [] }

-- P11's edges
before : List Edge
before = (0, 0) ∷ (1, 0) ∷ (2, 1) ∷ (3, 1) ∷ []

after : List Edge
after = (0, 0) ∷ (1, 0) ∷ (2, 1) ∷ (3, 1) ∷ (0, 2) ∷ []

pub table : List Case
table =
    -- P8: at equality the highest number; with (0, 0) twice
    covering 2 ((0, 0) ∷ (1, 0) ∷ []) (0 ∷ 1 ∷ [])
    ∷ covering 2 ((0, 0) ∷ (0, 0) ∷ (1, 0) ∷ []) (1 ∷ 0 ∷ [])
    -- P10: the groups {11}, {10}, {12}
    ∷ covering 3 ((0, 0) ∷ (1, 0) ∷ (1, 1) ∷ (2, 1) ∷ []) (0 ∷ 1 ∷ 0 ∷ [])
    -- group 2 holds the only edge of 0; then 0 and 1 have one edge left, and 0 had more
    ∷ covering 3 ((2, 0) ∷ (2, 1) ∷ (0, 1) ∷ (0, 2) ∷ (1, 2) ∷ []) (1 ∷ 0 ∷ 1 ∷ [])
    -- P11: the part of 0 and 1 is touched, the part of 2 and 3 is not
    ∷ updating 4 before after (0 ∷ 1 ∷ 0 ∷ 1 ∷ []) (1 ∷ 0 ∷ 0 ∷ 1 ∷ [])
    ∷ updating 4 before after (0 ∷ 1 ∷ 1 ∷ 0 ∷ []) (1 ∷ 0 ∷ 1 ∷ 0 ∷ [])
    -- the same edges the other way: what only the old list has touches too
    ∷ updating 4 after before (1 ∷ 0 ∷ 0 ∷ 1 ∷ []) (0 ∷ 1 ∷ 0 ∷ 1 ∷ [])
    -- (0, 1) joins both parts in the old list alone
    ∷ updating 4 ((0, 1) ∷ before) before (1 ∷ 0 ∷ 0 ∷ 0 ∷ []) (0 ∷ 1 ∷ 0 ∷ 1 ∷ [])
    ∷ []

pub cases : Hold table
unfolding mark_forced cover_marked stays pass trim_passes greatest mark choose turn turns cover listed cover_list reached touched update update_list covering updating before after table
cases = refl
