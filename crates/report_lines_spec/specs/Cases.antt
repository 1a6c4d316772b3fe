-- Report lines, proved of the rules.
use Rattle.std.specs.Prelude.{ℕ, refl, Bool, true, false, List, [], ◌∷◌, ◌++◌, replicate}
use Rattle.records.specs.Cases.{Case, Hold}
use Rattle.protein_groups_members.specs.Members.{Member}
use Rattle.report_lines_spec.specs.Line.{line_text, line_count}

-- the names a, b, c and `a;b`
abbrev names : List ℕ
names = (97 ∷ replicate 63 0) ++ (98 ∷ replicate 63 0) ++ (99 ∷ replicate 63 0) ++ (97 ∷ 59 ∷ 98 ∷ replicate 61 0)

abbrev mem : ℕ → ℕ → ℕ → Member
mem g p d = record { group = g; protein = p; decoy = d }

line : List Member → List ℕ → List ℕ → Bool → List ℕ → Bool → ℕ → List ℕ → Case
line ms marks list decoy tag generated count text =
    record { got = (line_count ms marks list decoy ∷ []) ∷ line_text names ms marks list decoy tag generated ∷ []; want = (count ∷ []) ∷ text ∷ [] }

pub table : List Case
table =
    -- groups {c, a} and {b}: c is in the list, and so is b: `a/c;b`
    line (mem 0 2 0 ∷ mem 0 0 0 ∷ mem 1 1 0 ∷ []) (1 ∷ 1 ∷ []) (1 ∷ 2 ∷ []) false [] false 2 (97 ∷ 47 ∷ 99 ∷ 59 ∷ 98 ∷ [])
    -- a group that holds two of them is named once
    ∷ line (mem 0 2 0 ∷ mem 0 0 0 ∷ mem 1 1 0 ∷ []) (1 ∷ 1 ∷ []) (0 ∷ 2 ∷ 2 ∷ []) false [] false 1 (97 ∷ 47 ∷ 99 ∷ [])
    -- a group without a mark does not apply, nor one whose member has the other flag
    ∷ line (mem 0 2 0 ∷ mem 0 0 0 ∷ mem 1 1 0 ∷ []) (0 ∷ 1 ∷ []) (0 ∷ 2 ∷ []) false [] false 0 []
    ∷ line (mem 0 2 0 ∷ mem 0 0 0 ∷ mem 1 1 0 ∷ []) (1 ∷ 1 ∷ []) (0 ∷ 2 ∷ []) true (114 ∷ []) true 0 []
    -- each decoy gets the tag r where decoys are generated, and is sorted with it: `b/ra`; else `a/b`
    ∷ line (mem 0 0 1 ∷ mem 0 1 0 ∷ []) (1 ∷ []) (0 ∷ []) true (114 ∷ []) true 1 (98 ∷ 47 ∷ 114 ∷ 97 ∷ [])
    ∷ line (mem 0 0 1 ∷ mem 0 1 0 ∷ []) (1 ∷ []) (0 ∷ []) true (114 ∷ []) false 1 (97 ∷ 47 ∷ 98 ∷ [])
    -- names do not count: `a;b` and `c` are two groups, `a;b` alone is one; so are decoys whose tag is `r;`: `r;a/r;b`
    ∷ line (mem 0 3 0 ∷ mem 1 2 0 ∷ []) (1 ∷ 1 ∷ []) (2 ∷ 3 ∷ []) false [] false 2 (97 ∷ 59 ∷ 98 ∷ 59 ∷ 99 ∷ [])
    ∷ line (mem 0 3 0 ∷ []) (1 ∷ []) (3 ∷ []) false [] false 1 (97 ∷ 59 ∷ 98 ∷ [])
    ∷ line (mem 0 0 1 ∷ mem 0 1 1 ∷ []) (1 ∷ []) (0 ∷ []) true (114 ∷ 59 ∷ []) true 1 (114 ∷ 59 ∷ 97 ∷ 47 ∷ 114 ∷ 59 ∷ 98 ∷ [])
    -- groups with the same members are two
    ∷ line (mem 0 0 0 ∷ mem 1 0 0 ∷ []) (1 ∷ 1 ∷ []) (0 ∷ []) false [] false 2 (97 ∷ 59 ∷ 97 ∷ [])
    ∷ []

pub cases : Hold table
unfolding line_text line_count line table
cases = refl
