-- The tables of the update in the lent work slice, and what they say.
use Rattle.std.specs.Prelude.{ℕ, zero, suc, ◌+◌, ◌≤◌, ◌<◌, ◌≡◌, Bool, cond, List, ◌∷◌, get_or, eqb}
use Rattle.lists.specs.FrameLaws.{Framed}
use Rattle.cover_joining.specs.Joining.{Forest, Reps, nodes}
use Rattle.cover_differing.specs.Walking.{links_new}
use Rattle.cover_spec.specs.Cover.{Edge}
use Rattle.cover_spec.specs.Update.{touched}
use Rattle.cover_edges.specs.RangeLaws.{InRange}

-- a link to what is touched for each of the first k groups that pass the test
unfoldable pub seeds : (ℕ → Bool) → ℕ → List Edge → List Edge
seeds d zero links = links
seeds d (suc k) links = cond (d k) ((0, 1 + k) ∷ seeds d k links) (seeds d k links)

-- what the update asks of the sizes
pub record UpdateSized (old : List ℕ) (on : ℕ) (new : List ℕ) (nn groups metas words : ℕ) : Type 0 where
  pub old_few : on ≤ 1048576
  pub new_few : nn ≤ 1048576
  pub groups-max : groups ≤ 131072
  pub metas-max : metas ≤ 262144
  pub old_inside : InRange old on groups metas
  pub new_inside : InRange new nn groups metas
  pub room : (links_new groups metas on nn).nexts + nn ≤ words

-- a group is touched exactly if its node is in the part of node 0
pub record PartsTell (old new : List Edge) (groups metas : ℕ) (w : List ℕ) : Type 0 where
  pub forest : Forest w metas (nodes groups metas)
  pub rep : ℕ → ℕ
  pub reps : Reps rep w metas (nodes groups metas)
  pub says : (g : ℕ) → g < groups → eqb (rep (1 + g)) 0 ≡ touched old new g

-- of the first k marks those of groups that are not touched are the ones given; the rest stays
pub record Mixed (old new : List Edge) (given : List ℕ) (k : ℕ) (marks marks' : List ℕ) : Type 0 where
  pub here : (g : ℕ) → g < k → get_or marks' g 0 ≡ cond (touched old new g) (get_or marks g 0) (get_or given g 0)
  pub rest : Framed 0 k marks marks'
