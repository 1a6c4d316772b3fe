-- Document 01, "Examples (P: proved of the rules)": P1, P3, P4, P5, P6, P8, P10 and P11, with further cases of the crates, in one table under
-- one claim.
use Rattle.std.specs.Prelude.{ℕ, refl, cond, get_or, eqb}
use mathlib.Core.List.{List, [], ◌∷◌, ◌++◌, flatten, map}
use Rattle.lists.specs.Lists.{keep}
use Rattle.records.specs.Cases.{Case, Hold}
use Rattle.records.specs.CaseLaws.{Table, holding, all_of}
use Rattle.records.specs.Search.{seek}
use Rattle.letters.specs.Letters.{capital, is_letter, bit_set, has, inserted}
use Rattle.catalogue_spec.specs.Names.{name_length, zeros_to, padded, names_tested}
use Rattle.cover_spec.specs.Cover.{mark_forced, cover_marked, stays, pass, trim_passes, greatest, mark, choose, turn, turns, cover, listed, cover_list}
use Rattle.protein_groups_members.specs.Members.{Member}
use Rattle.protein_groups_spec.specs.ProteinGroups.{Pair, Groups, proteins, metas, groups_of, grouping}
use Rattle.sorting.specs.Cases.{table as orders, cases as orders-hold}
use Rattle.catalogue_spec.specs.Cases.{table as books, cases as books_hold}
use Rattle.fasta.specs.Cases.{table as entries, cases as entries-hold}
use Rattle.modification.specs.Cases.{table as rules, cases as rules-hold}
use Rattle.enzyme_spec.specs.Cases.{table as digests, cases as digests-hold}
use Rattle.peptide_choices.specs.Cases.{table as choices, cases as choices-hold}
use Rattle.peptide.specs.Cases.{table as forms, cases as forms-hold}
use Rattle.digest_groups_spec.specs.Cases.{table as gathered, cases as gathered-hold}
use Rattle.protein_groups_spec.specs.Cases.{table as groups, cases as groups-hold}
use Rattle.protein_groups.specs.Cases.{table as grouped, cases as grouped-hold}
use Rattle.cover_spec.specs.Cases.{table as marks, cases as marks-hold}
use Rattle.cover.specs.Cases.{table as covers, cases as covers-hold}
use Rattle.report_lines_spec.specs.Cases.{table as lines, cases as lines-hold}
use Rattle.report_lines.specs.Cases.{table as reports, cases as reports-hold}
use Rattle.sendumaal_calls.specs.Calls.{set_of}
use Rattle.sendumaal.specs.NameCalls.{names_call}

-- P10: of pairs (peptide, protein) the proteins of each group, then those of the groups that the cover of its edges marks
abbrev p10 : Groups
p10 =
    let pair : ℕ → ℕ → Pair = λ p q. record { peptide = p; protein = q } in
    grouping (0 ∷ 0 ∷ 0 ∷ 0 ∷ []) 4 (pair 1 10 ∷ pair 1 11 ∷ pair 2 10 ∷ pair 2 11 ∷ pair 3 12 ∷ pair 3 10 ∷ [])

abbrev in_group : ℕ → List ℕ
in_group g = map (λ (m : Member). m.protein) (keep (λ (m : Member). eqb m.group g) p10.members)

abbrev in_cover : List ℕ
in_cover = map (λ (m : Member). m.protein) (keep (λ (m : Member). eqb (get_or (cover_list p10.groups p10.edges) m.group 0) 1) p10.members)

whole : List Case
whole = record { got = (p10.groups ∷ []) ∷ in_group 0 ∷ in_group 1 ∷ in_group 2 ∷ in_cover ∷ []; want = (3 ∷ []) ∷ (11 ∷ []) ∷ (10 ∷ []) ∷ (12 ∷ []) ∷ (10 ∷ []) ∷ [] } ∷ []

whole-holds : Hold whole
unfolding flatten mark_forced cover_marked stays pass trim_passes greatest mark choose turn turns cover listed cover_list proteins metas groups_of grouping whole
whole-holds = refl

-- a set and a byte, and 1 where the set has it, else 0
asked : ℕ → ℕ → ℕ → Case
asked set byte want = record { got = (cond (has (set_of set) byte) 1 0 ∷ []) ∷ []; want = (want ∷ []) ∷ [] }

-- a set and a byte, and the set with it
put : ℕ → ℕ → ℕ → Case
put set byte want = record { got = ((inserted (set_of set) byte).mask ∷ []) ∷ []; want = (want ∷ []) ∷ [] }

sets : List Case
sets =
    -- K and R: both, and neighbours of each
    asked 132096 75 1
    ∷ asked 132096 82 1
    ∷ asked 132096 74 0
    ∷ asked 132096 83 0
    -- A alone and Z alone
    ∷ asked 1 65 1
    ∷ asked 33554432 90 1
    -- bits above 25 are no letters: bit 26 is not the byte behind Z, bit 31 not the byte before a
    ∷ asked 67108864 91 0
    ∷ asked 2147483648 96 0
    -- small letters read as capitals: k and r, and neighbours of each; a alone and z alone
    ∷ asked 132096 107 1
    ∷ asked 132096 114 1
    ∷ asked 132096 106 0
    ∷ asked 132096 115 0
    ∷ asked 1 97 1
    ∷ asked 33554432 122 1
    -- every bit: none of the bytes next to A and Z or to a and z, nor A and a with the highest bit set, nor bytes 32 before a letter,
    -- nor the first and the last byte
    ∷ asked 4294967295 64 0
    ∷ asked 4294967295 91 0
    ∷ asked 4294967295 96 0
    ∷ asked 4294967295 123 0
    ∷ asked 4294967295 193 0
    ∷ asked 4294967295 225 0
    ∷ asked 4294967295 33 0
    ∷ asked 4294967295 0 0
    ∷ asked 4294967295 255 0
    -- insertion: k as K, and again; bytes that are no letters change nothing
    ∷ put 131072 107 132096
    ∷ put 132096 107 132096
    ∷ put 132096 96 132096
    ∷ put 132096 123 132096
    ∷ put 132096 91 132096
    ∷ []

sets_hold : Hold sets
unfolding is_letter capital bit_set has inserted asked put sets
sets_hold = refl

-- the proteins P1, P2 and P3
three : List ℕ
three = padded (80 ∷ 49 ∷ []) ++ (padded (80 ∷ 50 ∷ []) ++ padded (80 ∷ 51 ∷ []))

-- a catalogue, and the number and the place that its test gives
test : List ℕ → ℕ → ℕ → Case
test catalogue number place = record { got = ((names_call catalogue).answer ∷ []) ∷ (names_call catalogue).lent; want = (number ∷ []) ∷ (place ∷ []) ∷ [] }

names : List Case
names =
    test [] 0 0
    ∷ test three 0 0
    -- 8: a part of a name
    ∷ test (three ++ (32 ∷ [])) 8 0
    -- 12: no bytes; a space; a byte behind the zeros
    ∷ test (three ++ padded []) 12 3
    ∷ test (three ++ padded (80 ∷ 32 ∷ 49 ∷ [])) 12 3
    ∷ test (padded (80 ∷ 0 ∷ 49 ∷ []) ++ three) 12 0
    -- 13: one accession twice, at the later; 12 where a bad name stands before it
    ∷ test (three ++ padded (80 ∷ 50 ∷ [])) 13 3
    ∷ test (padded [] ++ (three ++ padded (80 ∷ 50 ∷ []))) 12 0
    ∷ []

names_hold : Hold names
unfolding seek name_length zeros_to names_tested three test names
names_hold = refl

tables : List Table
tables =
    holding sets sets_hold
    ∷ holding orders orders-hold
    ∷ holding books books_hold
    ∷ holding entries entries-hold
    ∷ holding rules rules-hold
    ∷ holding digests digests-hold
    ∷ holding choices choices-hold
    ∷ holding forms forms-hold
    ∷ holding gathered gathered-hold
    ∷ holding groups groups-hold
    ∷ holding grouped grouped-hold
    ∷ holding whole whole-holds
    ∷ holding marks marks-hold
    ∷ holding covers covers-hold
    ∷ holding lines lines-hold
    ∷ holding reports reports-hold
    ∷ holding names names_hold
    ∷ []

pub table : List Case
table = (all_of tables).cases

pub cases : Hold table
unfolding table
cases = (all_of tables).hold
