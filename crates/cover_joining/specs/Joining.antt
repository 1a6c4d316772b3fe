-- Nodes joined into parts. From place p of the work memory on each of n nodes names one that is not above it, and the lowest of a part
-- names itself.
use Rattle.std.specs.Prelude.{ℕ, ◌+◌, ◌*◌, ◌≤◌, ◌<◌, zero, suc, ◌≡◌, Bool, List, ◌∷◌, length, get_or}
use Rattle.lists.specs.Lists.{All}
use Rattle.lists.specs.FrameLaws.{Framed}
use Rattle.records.specs.Le.{number_at}
use Rattle.cover_spec.specs.Cover.{Edge}

pub record Forest (w : List ℕ) (p n : ℕ) : Type 0 where
  pub room : p + n ≤ length w
  pub down : (x : ℕ) → x < n → get_or w (p + x) 0 ≤ x

-- rep x is the lowest node of the part of x
pub record Reps (rep : ℕ → ℕ) (w : List ℕ) (p n : ℕ) : Type 0 where
  pub along : (x : ℕ) → x < n → rep (get_or w (p + x) 0) ≡ rep x
  pub top : (x : ℕ) → x < n → get_or w (p + x) 0 ≡ x → rep x ≡ x

-- the parts are what the links, pairs of nodes, join: the ends of each are in one part, and whatever no link leaves no part leaves
pub record Held (links : List Edge) (w : List ℕ) (p n : ℕ) : Type 0 where
  pub rep : ℕ → ℕ
  pub reps : Reps rep w p n
  pub joins : All (λ l. rep l.0 ≡ rep l.1) links
  pub only : (f : ℕ → Bool) → All (λ l. f l.0 ≡ f l.1) links → (x : ℕ) → x < n → f x ≡ f (rep x)

-- r is the lowest node of the part of x, and the parts are as they were
pub record LowestFound (w w' : List ℕ) (p n x r : ℕ) : Type 0 where
  pub forest : Forest w' p n
  pub inside : r < n
  pub reps : (rep : ℕ → ℕ) → Reps rep w p n → Reps rep w' p n × (r ≡ rep x) × (rep r ≡ r)
  pub rest : Framed p (p + n) w w'

-- there are more links
pub record Joined (more : List Edge → List Edge) (w w' : List ℕ) (p n : ℕ) : Type 0 where
  pub forest : Forest w' p n
  pub held : (links : List Edge) → Held links w p n → Held (more links) w' p n
  pub rest : Framed p (p + n) w w'

-- ---- the nodes: 0 for what is touched, then one for each group, then one for each meta-peptide
abbrev pub nodes : ℕ → ℕ → ℕ
nodes groups metas = 1 + groups + metas

-- a link for each of the first i records
unfoldable pub edge_links : ℕ → List ℕ → ℕ → List Edge → List Edge
edge_links groups bs zero links = links
edge_links groups bs (suc i) links = (1 + number_at 4 bs (8 * i), 1 + groups + number_at 4 bs (8 * i + 4)) ∷ edge_links groups bs i links
