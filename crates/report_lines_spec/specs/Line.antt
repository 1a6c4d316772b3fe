-- Document 01, "Groups and cover": the report line of a peptide, given its protein list and decoy flag.
use Rattle.std.specs.Prelude.{ℕ, Bool, cond, ◌&&◌, List, [], ◌++◌, map, ltb, eqb, length, get_or}
use Rattle.lists.specs.Lists.{up_from, keep, occurs}
use Rattle.sorting_spec.specs.Sort.{sorted}
use Rattle.sorting_spec.specs.Lex.{lex_le}
use Rattle.sorting_spec.specs.Joined.{name_of, until_zero, join}
use Rattle.protein_groups_members.specs.Members.{Member}

-- "Decoys get the tag where decoys are generated": a member's name, tag included
abbrev pub tagged : List ℕ → List ℕ → Bool → Member → List ℕ
tagged names tag generated m = cond (generated && eqb m.decoy 1) tag [] ++ until_zero (name_of names m.protein)

-- a group's members, in their order
abbrev pub in_group : List Member → ℕ → List Member
in_group ms g = keep (λ (m : Member). eqb m.group g) ms

-- "names in a group, tag included, sorted and joined by `/`"
abbrev pub group_text : List ℕ → List Member → List ℕ → Bool → ℕ → List ℕ
group_text names ms tag generated g = join 47 (sorted lex_le (map (tagged names tag generated) (in_group ms g)))

-- "the marked groups holding one of its proteins with that flag, each once"
abbrev pub holds : List ℕ → Bool → Member → Bool
holds list decoy m = eqb m.decoy (cond decoy 1 0) && occurs m.protein list

abbrev pub applies : List Member → List ℕ → List ℕ → Bool → ℕ → Bool
applies ms marks list decoy g = eqb (get_or marks g 0) 1 && ltb 0 (length (keep (holds list decoy) (in_group ms g)))

abbrev pub applying : List Member → List ℕ → List ℕ → Bool → List ℕ
applying ms marks list decoy = keep (applies ms marks list decoy) (up_from 0 (length marks))

-- "groups sorted and joined by `;`"
unfoldable pub line_text : List ℕ → List Member → List ℕ → List ℕ → Bool → List ℕ → Bool → List ℕ
line_text names ms marks list decoy tag generated = join 59 (sorted lex_le (map (group_text names ms tag generated) (applying ms marks list decoy)))

-- Document 02, [3]: "It should be the number of marked groups that hold a protein of the peptide with its decoy flag, whatever the
-- names contain." Neither names nor tag are among its arguments.
unfoldable pub line_count : List Member → List ℕ → List ℕ → Bool → ℕ
line_count ms marks list decoy = length (applying ms marks list decoy)
