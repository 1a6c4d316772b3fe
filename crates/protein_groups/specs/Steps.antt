-- What holds between the steps of a grouping. The public statement does not cite this.
use Rattle.std.specs.Prelude.{ℕ, ◌+◌, ◌≤◌, ◌≡◌, List, map, length, replicate}
use Rattle.protein_groups_spec.specs.Rows.{standing_edges, standing_members}
use Rattle.records.specs.Room.{fitted}
use Rattle.cover_spec.specs.Cover.{Edge}
use Rattle.cover_edges.specs.Edges.{edge_bytes}
use Rattle.protein_groups_members.specs.Members.{Member, member_bytes}
use Rattle.protein_groups.specs.declared.arranging.Stands.{Stands}

-- what is written fits, and stands within n numbers
pub record Writable (s : Stands) (n : ℕ) : Type 0 where
  pub few_edges : s.edges ≤ 1048576
  pub metas : s.metas + s.edges ≤ n
  pub groups : s.groups + s.edges ≤ n
  pub few_members : s.members ≤ 131072
  pub order : s.order + s.members ≤ n
  pub ranks : s.ranks + s.members ≤ n

abbrev pub edges_standing : Stands → List ℕ → List Edge
edges_standing s w = standing_edges w s.metas s.groups s.edges

abbrev pub members_standing : Stands → List ℕ → List Member
members_standing s w = standing_members w s.order s.ranks s.members

-- the edges and members were written, and the work memory cleared
pub record Handed (w edges members : List ℕ) (s : Stands) (w' edges' members' : List ℕ) : Type 0 where
  pub wrote_edges : edges' ≡ fitted 8 1048576 edges (map edge_bytes (edges_standing s w))
  pub wrote_members : members' ≡ fitted 12 131072 members (map member_bytes (members_standing s w))
  pub cleared : w' ≡ replicate (length w) 0
