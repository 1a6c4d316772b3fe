-- The edges of one group, old and new, counted meta-peptide by meta-peptide in the table that stands at 0.
use Rattle.std.specs.Prelude.{ℕ, zero, suc, ◌+◌, ◌-◌, ◌≤◌, ◌<◌, ◌≡◌, Bool, true, false, not, ◌&&◌, ◌||◌, List, ◌++◌, length, get_or, eqb}
use Rattle.lists.specs.Lists.{count, some}
use Rattle.lists.specs.FrameLaws.{Framed}
use Rattle.cover_spec.specs.Cover.{Edge, group, same_edge}
use Rattle.cover_spec.specs.Update.{differs}
use Rattle.cover_edges.specs.Chains.{Chains}
use Rattle.cover_edges.specs.Edges.{edges_to}
use Rattle.cover_edges.specs.RangeLaws.{InRange}
use Rattle.cover_differing.specs.declared.links.Links.{Links}
use Rattle.cover_differing.specs.declared.passing.Pass.{Pass}
use Rattle.cover_differing.specs.declared.passing.Pass.TheVariants.{Up, Off, Clear}

-- some edge of the group stands a different number of times in the two lists
unfoldable pub differing : List Edge → List Edge → ℕ → Bool
differing old new g = some (λ e. eqb (group e) g && differs old new e) (old ++ new)

-- how often the edge (g, m) stands among the first i records
unfoldable pub of_pair : ℕ → ℕ → List ℕ → ℕ → ℕ
of_pair g m bs i = count (same_edge (g, m)) (edges_to bs i)

-- ---- a pass: what a record makes of the count of its meta-peptide, and whether the count is one to tell of
abbrev pub changed : Pass → ℕ → ℕ
changed Up v = v + 1
changed Off v = v - 1
changed Clear v = 0

abbrev pub telling : Pass → ℕ → Bool
telling Up v = false
telling Off v = eqb v 0
telling Clear v = not (eqb v 0)

-- the same of k records, one after the other
abbrev pub changed_by : Pass → ℕ → ℕ → ℕ
changed_by p zero v = v
changed_by p (suc k) v = changed_by p k (changed p v)

abbrev pub telling_by : Pass → ℕ → ℕ → Bool
telling_by p zero v = false
telling_by p (suc k) v = telling p v || telling_by p k (changed p v)

-- the records can be walked
pub record Walkable (t : Links) (bs w : List ℕ) : Type 0 where
  pub few : t.records ≤ 1048576
  pub inside : InRange bs t.records t.groups t.metas
  pub above : t.metas ≤ t.heads
  pub order : t.heads + t.groups ≤ t.nexts
  pub room : t.nexts + t.records ≤ length w
  pub chains : Chains w bs 0 t.records t.groups t.heads t.nexts

-- a pass along the records of group g is done, and told whether some count was one to tell of
pub record Gone (p : Pass) (t : Links) (bs : List ℕ) (g : ℕ) (w w' : List ℕ) (told : Bool) : Type 0 where
  pub counts : (m : ℕ) → m < t.metas → get_or w' m 0 ≡ changed_by p (of_pair g m bs t.records) (get_or w m 0)
  pub one : told ≡ true → (m : ℕ) × (m < t.metas) × (telling_by p (of_pair g m bs t.records) (get_or w m 0) ≡ true)
  pub none : told ≡ false → (m : ℕ) → m < t.metas → telling_by p (of_pair g m bs t.records) (get_or w m 0) ≡ false
  pub rest : Framed 0 t.metas w w'

-- ---- the layout: from 0 on a count for each meta-peptide, from `metas` on the nodes, then the heads of the groups' old records, of
-- their new records, the nexts of the old records and of the new ones
abbrev pub links_old : ℕ → ℕ → ℕ → Links
links_old groups metas on =
    record { groups = groups; metas = metas; records = on; heads = metas + (1 + groups + metas); nexts = metas + (1 + groups + metas) + groups + groups }

abbrev pub links_new : ℕ → ℕ → ℕ → ℕ → Links
links_new groups metas on nn =
    record { groups = groups; metas = metas; records = nn; heads = metas + (1 + groups + metas) + groups; nexts = metas + (1 + groups + metas) + groups + groups + on }

-- the groups' records are linked, and nothing is counted
pub record GroupsLinked (old : List ℕ) (on : ℕ) (new : List ℕ) (nn groups metas : ℕ) (w : List ℕ) : Type 0 where
  pub groups-max : groups ≤ 131072
  pub metas-max : metas ≤ 262144
  pub by_old : Walkable (links_old groups metas on) old w
  pub by-new : Walkable (links_new groups metas on nn) new w
  pub clean : (m : ℕ) → m < metas → get_or w m 0 ≡ 0
