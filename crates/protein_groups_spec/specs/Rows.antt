-- Where edges and members stand in a slice of numbers. No public statement cites this.
use Rattle.std.specs.Prelude.{ℕ, ◌+◌, ◌/◌, ◌%◌, List, map, get_or}
use Rattle.lists.specs.Lists.{up_from}
use Rattle.cover_spec.specs.Cover.{Edge}
use Rattle.protein_groups_members.specs.Members.{Member}

-- n edges: groups from b on, meta-peptides from a on
abbrev pub standing_edge : List ℕ → ℕ → ℕ → ℕ → Edge
standing_edge w a b i = (get_or w (b + i) 0, get_or w (a + i) 0)

abbrev pub standing_edges : List ℕ → ℕ → ℕ → ℕ → List Edge
standing_edges w a b n = map (standing_edge w a b) (up_from 0 n)

-- a member of a group, by what shows it
abbrev pub member_of : ℕ → ℕ → Member
member_of group shown = record { group = group; protein = shown / 2; decoy = shown % 2 }

-- n members: groups from s on, the places of what shows them from o on
abbrev pub standing_member : List ℕ → ℕ → ℕ → ℕ → Member
standing_member w o s j = member_of (get_or w (s + j) 0) (get_or w (get_or w (o + j) 0) 0)

abbrev pub standing_members : List ℕ → ℕ → ℕ → ℕ → List Member
standing_members w o s n = map (standing_member w o s) (up_from 0 n)
