-- What the tests of a report line answer.
use Rattle.std.specs.Prelude.{ℕ, ◌/◌, ◌%◌, Bool, cond, not, ◌&&◌, ◌||◌, List, length, get_or, ltb, leb, eqb, Err}
use Rattle.records.specs.declared.refusal.Refusal.TheVariants.{Size, Length, Name}
use Rattle.records.specs.Search.{seek}
use Rattle.records.specs.Tested.{and_then, field_tested}
use Rattle.catalogue_spec.specs.Names.{visible, name_count, too_many_names, whole_names, names_tested}
use Rattle.cover_edges.specs.Edges.{first_bad_mark}
use Rattle.protein_groups_members.specs.Members.{first_bad_member}
use Rattle.records.specs.Answers.{Passed, Tested}

-- 1: more than 65,536 names, 131,072 members or marks, or 1,048,576 proteins in the list
abbrev pub too_large : List ℕ → List ℕ → List ℕ → List ℕ → Bool
too_large names members marks list = too_many_names names || ltb 131072 (length members / 12) || ltb 131072 (length marks) || ltb 1048576 (length list)

-- 8: names or members that are not whole records
abbrev pub uneven : List ℕ → List ℕ → Bool
uneven names members = not (whole_names names && eqb (length members % 12) 0)

-- 9 at the first member with a group that has no mark, a protein that has no name, a flag that is none, or no zeros behind it
abbrev pub members_tested : List ℕ → ℕ → ℕ → Tested
members_tested members groups proteins = field_tested (first_bad_member members groups proteins) (length members / 12)

-- 9 at the first mark that is not 0 or 1
abbrev pub marks_tested : List ℕ → Tested
marks_tested marks = field_tested (first_bad_mark marks) (length marks)

-- 9 at the first protein of the list that has no name
abbrev pub bad_protein : List ℕ → ℕ → ℕ → Bool
bad_protein list proteins i = leb proteins (get_or list i 0)

unfoldable pub first_bad_protein : List ℕ → ℕ → ℕ
unfolding seek
first_bad_protein list proteins = seek (bad_protein list proteins) 0 (length list)

abbrev pub list_tested : List ℕ → ℕ → Tested
list_tested list proteins = field_tested (first_bad_protein list proteins) (length list)

-- 12 at 0: "the tag (at most 16 bytes, each 33 to 126, else 12)"
abbrev pub bad_tag_byte : List ℕ → ℕ → Bool
bad_tag_byte tag i = not (visible (get_or tag i 0))

unfoldable pub first_bad_tag_byte : List ℕ → ℕ
unfolding seek
first_bad_tag_byte tag = seek (bad_tag_byte tag) 0 (length tag)

abbrev pub tag_tested : List ℕ → Tested
tag_tested tag = cond (ltb 16 (length tag) || ltb (first_bad_tag_byte tag) (length tag)) (Err (Name 0)) Passed

-- the contents, list by list: catalogue (12, 13), members, marks, protein list (9), tag (12)
abbrev pub lists_tested : List ℕ → List ℕ → List ℕ → List ℕ → ℕ → Tested
lists_tested members marks list tag proteins = and_then (members_tested members (length marks) proteins) (and_then (marks_tested marks) (and_then (list_tested list proteins) (tag_tested tag)))

abbrev pub contents : List ℕ → List ℕ → List ℕ → List ℕ → List ℕ → Tested
contents names members marks list tag = and_then (names_tested names) (lists_tested members marks list tag (name_count names))

abbrev pub tested : List ℕ → List ℕ → List ℕ → List ℕ → List ℕ → Tested
tested names members marks list tag =
    cond (too_large names members marks list) (Err Size)
    (cond (uneven names members) (Err Length) (contents names members marks list tag))
