-- The sizes of the run, and its marks where there are no edges. Assumes nothing.
use Rattle.std.specs.Prelude.{ℕ, zero, suc, ◌+◌, ◌*◌, ◌≤◌, ◌<◌, ◌≡◌, refl, false, List, [], replicate}
use Rattle.std.proofs.Common.{arith, ap, ◌∙◌}
use Rattle.lists.specs.Lists.{bit}
use Rattle.cover_spec.specs.Cover.{turns, cover, listed, cover_list}
use Rattle.cover_spec.specs.ListedLaws.{listed_ext}
use Rattle.cover_edges.specs.Edges.{edges_to}
use Rattle.cover_walk.specs.Tables.{RunFits}

-- ---- the room for the tables, where there are edges: then there is a group and a meta-peptide
pub record TableRoom (n groups metas work : ℕ) : Type 0 where
  pub fits : 4 * groups + 2 * metas + 4 * n + 3 ≤ work
  pub narrow : 4 * groups + 2 * metas + 4 * n + 3 ≤ 4294967295

pub table_room : {bs : List ℕ} {n groups metas marks work : ℕ} → RunFits bs n groups metas marks work → 0 < n → TableRoom n groups metas work
table_room f h = record { fits = omega (arith, f.work_len, (f.inside 0 h).0, (f.inside 0 h).1); narrow = omega (arith, f.few, f.groups-max, f.metas-max) }

-- ---- no edges, no marks
cover-none : (n g : ℕ) → cover n [] g ≡ false
unfolding cover turns
cover-none n g = refl

zeros : (n : ℕ) → listed n (λ g. 0) ≡ replicate n 0
unfolding listed
zeros zero = refl
zeros (suc n) = rw (zeros n)

pub nothing_marked : (bs : List ℕ) (n groups : ℕ) → n ≡ 0 → cover_list groups (edges_to bs n) ≡ replicate groups 0
unfolding cover_list edges_to
nothing_marked bs n groups e = rw e (listed_ext groups (λ g. bit (cover groups [] g)) (λ g. 0) (λ g h. ap bit (cover-none groups g)) ∙ zeros groups)
