-- Document 01's report line: worked cases, proved of the definitions. A case is the answer's numbers, the line's length and the group
-- count or a refusal, and then the lent bytes.
use Rattle.std.specs.Prelude.{ℕ, ◌-◌, refl, Bool, true, false, length, replicate, Ok, Err}
use mathlib.Core.List.{List, [], ◌∷◌, ◌++◌, flatten}
use Rattle.report_lines_tests.specs.Testing.{first_bad_protein, first_bad_tag_byte}
use Rattle.records.specs.Le.{le, number_at}
use Rattle.records.specs.Refusals.{number_of, place_of}
use Rattle.records.specs.Outcome.{Outcome}
use Rattle.records.specs.Room.{written}
use Rattle.records.specs.Search.{seek}
use Rattle.records.specs.Cases.{Case, Hold, refused_as}
use Rattle.catalogue_spec.specs.Names.{name_length, zeros_to, names_tested}
use Rattle.cover_edges.specs.Edges.{first_bad_mark}
use Rattle.protein_groups_members.specs.Members.{first_bad_member}
use Rattle.report_lines_spec.specs.Line.{line_text, line_count}
use Rattle.report_lines.specs.Reporting.{Reported, line_outcome}

-- refusal 0 being none
abbrev pub line : ℕ → ℕ → List ℕ
line bytes groups = 0 ∷ 0 ∷ bytes ∷ groups ∷ []

abbrev pub line_numbers : Reported → List ℕ
line_numbers (Ok r) = line r.bytes r.groups
line_numbers (Err why) = refused_as (number_of why) (place_of why)

abbrev pub told_line : Outcome Reported → List (List ℕ)
told_line o = line_numbers o.answer ∷ o.lent

-- a name of these bytes
name : List ℕ → List ℕ
name t = t ++ replicate (64 - length t) 0

-- the names a, b, c and `a;b`
abc : List ℕ
unfolding name
abc = name (97 ∷ []) ++ (name (98 ∷ []) ++ (name (99 ∷ []) ++ name (97 ∷ 59 ∷ 98 ∷ [])))

member : ℕ → ℕ → ℕ → List ℕ
member g p d = le 4 g ++ (le 4 p ++ (d ∷ 0 ∷ 0 ∷ 0 ∷ []))

-- so many bytes 170 of room
call : List ℕ → List (List ℕ) → List ℕ → List ℕ → Bool → List ℕ → Bool → ℕ → List ℕ → List ℕ → Case
call names members marks list decoy tag generated room answer out =
    record { got = told_line (line_outcome names (flatten members) marks list decoy tag generated (replicate room 170)); want = answer ∷ out ∷ [] }

pub table : List Case
table =
    -- groups {c, a} and {b}: c is in the list, and so is b: `a/c;b`; more room than needed stays
    call abc (member 0 2 0 ∷ member 0 0 0 ∷ member 1 1 0 ∷ []) (1 ∷ 1 ∷ []) (1 ∷ 2 ∷ []) false [] false 6 (line 5 2) (97 ∷ 47 ∷ 99 ∷ 59 ∷ 98 ∷ 170 ∷ [])
    -- by their texts, not by their numbers: `b` of group 0 after `a/c`; each once
    ∷ call abc (member 0 1 0 ∷ member 1 2 0 ∷ member 1 0 0 ∷ []) (1 ∷ 1 ∷ []) (0 ∷ 1 ∷ 2 ∷ 0 ∷ []) false [] false 5 (line 5 2) (97 ∷ 47 ∷ 99 ∷ 59 ∷ 98 ∷ [])
    -- no group applies: an empty line
    ∷ call abc (member 0 2 0 ∷ []) (0 ∷ []) (2 ∷ []) false [] false 1 (line 0 0) (170 ∷ [])
    ∷ call [] [] [] [] false [] false 0 (line 0 0) []
    -- each decoy gets the tag r where decoys are generated, and is sorted with it: `b/ra`
    ∷ call abc (member 0 0 1 ∷ member 0 1 0 ∷ []) (1 ∷ []) (0 ∷ []) true (114 ∷ []) true 4 (line 4 1) (98 ∷ 47 ∷ 114 ∷ 97 ∷ [])
    ∷ call abc (member 0 0 1 ∷ member 0 1 0 ∷ []) (1 ∷ []) (0 ∷ []) true (114 ∷ []) false 4 (line 3 1) (97 ∷ 47 ∷ 98 ∷ 170 ∷ [])
    -- names do not count: `a;b` and `c` are two groups, `a;b` alone is one, and so is `a` with the tag `;`
    ∷ call abc (member 0 3 0 ∷ member 1 2 0 ∷ []) (1 ∷ 1 ∷ []) (2 ∷ 3 ∷ []) false [] false 5 (line 5 2) (97 ∷ 59 ∷ 98 ∷ 59 ∷ 99 ∷ [])
    ∷ call abc (member 0 3 0 ∷ []) (1 ∷ []) (3 ∷ []) false [] false 3 (line 3 1) (97 ∷ 59 ∷ 98 ∷ [])
    ∷ call abc (member 0 0 1 ∷ []) (1 ∷ []) (0 ∷ []) true (59 ∷ []) true 2 (line 2 1) (59 ∷ 97 ∷ [])
    -- 11: the first bytes that fit
    ∷ call abc (member 0 2 0 ∷ member 0 0 0 ∷ member 1 1 0 ∷ []) (1 ∷ 1 ∷ []) (1 ∷ 2 ∷ []) false [] false 4 (refused_as 11 0) (97 ∷ 47 ∷ 99 ∷ 59 ∷ [])
    -- 1: a mark too many, before all else
    ∷ call (97 ∷ []) [] (replicate 131073 2) [] false [] false 1 (refused_as 1 0) (170 ∷ [])
    -- 8: a byte too many of names, of members; before a bad mark
    ∷ call (abc ++ (97 ∷ [])) [] [] [] false [] false 1 (refused_as 8 0) (170 ∷ [])
    ∷ call abc (member 0 2 0 ∷ (0 ∷ []) ∷ []) (2 ∷ []) [] false [] false 1 (refused_as 8 0) (170 ∷ [])
    -- 12: a name of no bytes; 13: a name once more; before a bad member
    ∷ call (abc ++ name []) (member 1 0 0 ∷ []) (1 ∷ []) [] false [] false 1 (refused_as 12 4) (170 ∷ [])
    ∷ call (abc ++ name (98 ∷ [])) (member 1 0 0 ∷ []) (1 ∷ []) [] false [] false 1 (refused_as 13 4) (170 ∷ [])
    -- 9: a member's group, protein or flag; before a bad mark
    ∷ call abc (member 0 0 0 ∷ member 1 0 0 ∷ []) (2 ∷ []) [] false [] false 1 (refused_as 9 1) (170 ∷ [])
    ∷ call abc (member 0 4 0 ∷ []) (2 ∷ []) [] false [] false 1 (refused_as 9 0) (170 ∷ [])
    ∷ call abc (member 0 0 2 ∷ []) (2 ∷ []) [] false [] false 1 (refused_as 9 0) (170 ∷ [])
    -- 9: a mark that is not 0 or 1; before a bad list
    ∷ call abc [] (0 ∷ 1 ∷ 2 ∷ []) (4 ∷ []) false [] false 1 (refused_as 9 2) (170 ∷ [])
    -- 9: a protein of the list; before a bad tag
    ∷ call abc [] [] (3 ∷ 4 ∷ []) false (32 ∷ []) false 1 (refused_as 9 1) (170 ∷ [])
    -- 12: a tag of 17 bytes; one with a space
    ∷ call abc [] [] [] false (replicate 17 114) false 1 (refused_as 12 0) (170 ∷ [])
    ∷ call abc [] [] [] false (114 ∷ 32 ∷ []) false 1 (refused_as 12 0) (170 ∷ [])
    ∷ []

pub cases : Hold table
unfolding seek name_length zeros_to names_tested first_bad_mark first_bad_member first_bad_protein first_bad_tag_byte flatten number_at written line_text line_count name abc member call table
cases = refl
