-- The edges of a list of records: their number, and that they are in range. Assumes nothing.
use Rattle.std.specs.Prelude.{ℕ, zero, suc, ◌<◌, ◌≡◌, refl, List, [], ◌∷◌, ◌++◌, length}
use Rattle.std.proofs.Common.{arith, ◌∙◌, length-append}
use Rattle.lists.specs.Lists.{All}
use Rattle.lists.specs.KeepLaws.{all_map}
use Rattle.cover_spec.proofs.ChoiceLaws.{GroupsUnder}
use Rattle.cover_spec.specs.Cover.{Edge, group, meta}
use Rattle.cover_edges.specs.Edges.{edge_at, edges_to}
use Rattle.cover_edges.specs.RangeLaws.{InRange}

all_snoc : (P : Edge → Type 0) (l : List Edge) (e : Edge) → All P l → P e → All P (l ++ (e ∷ []))
all_snoc P [] e h p = (p, tt)
all_snoc P (d ∷ l) e h p = (h.0, all_snoc P l e h.1 p)

pub edges-all : (bs : List ℕ) (n groups metas : ℕ) → InRange bs n groups metas → All (λ e. (group e < groups) × (meta e < metas)) (edges_to bs n)
unfolding edges_to
edges-all bs zero groups metas r = tt
edges-all bs (suc n) groups metas r = all_snoc _ (edges_to bs n) (edge_at bs n) (edges-all bs n groups metas (λ i l. r i (omega arith))) (r n (omega arith))

pub edges_under : (bs : List ℕ) (n groups metas : ℕ) → InRange bs n groups metas → GroupsUnder groups (edges_to bs n)
edges_under bs n groups metas r = all_map (λ e h. h.0) (edges_to bs n) (edges-all bs n groups metas r)

pub length-edges : (bs : List ℕ) (n : ℕ) → length (edges_to bs n) ≡ n
unfolding edges_to
length-edges bs zero = refl
length-edges bs (suc n) = length-append (edges_to bs n) (edge_at bs n ∷ []) ∙ omega (arith, length-edges bs n)
