-- Where no record is bad, all fields are below their counts. Assumes nothing.
use Rattle.std.specs.Prelude.{ℕ, ◌+◌, ◌*◌, ◌/◌, ◌≤◌, ◌<◌, ◌≡◌, false, List, leb, length, get_or}
use Rattle.std.proofs.Common.{arith, leb-false, ltb-false}
use Rattle.lists.specs.Tests.{neither}
use Rattle.records.specs.Le.{number_at}
use Rattle.records.specs.SearchLaws.{seek_before}
use Rattle.cover_spec.specs.Cover.{group, meta}
use Rattle.cover_edges.specs.Edges.{edge_at, bad_edge, first_bad_edge, bad_mark, first_bad_mark}

-- the fields of n records are below their counts
abbrev pub InRange : List ℕ → ℕ → ℕ → ℕ → Type 0
InRange bs n groups metas = (i : ℕ) → i < n → (number_at 4 bs (8 * i) < groups) × (number_at 4 bs (8 * i + 4) < metas)

pub in_range : (bs : List ℕ) (groups metas : ℕ) → length bs / 8 ≤ first_bad_edge bs groups metas → InRange bs (length bs / 8) groups metas
unfolding first_bad_edge
in_range bs groups metas h i l =
    let e : bad_edge groups metas (edge_at bs i) ≡ false = seek_before (λ j. bad_edge groups metas (edge_at bs j)) 0 (length bs / 8) i (omega arith) (omega arith) in
    let t = neither (leb groups (group (edge_at bs i))) (leb metas (meta (edge_at bs i))) e in
    (leb-false groups (group (edge_at bs i)) t.0, leb-false metas (meta (edge_at bs i)) t.1)

-- where no mark is bad, all are 0 or 1
pub all_bits : (marks : List ℕ) → length marks ≤ first_bad_mark marks → (i : ℕ) → i < length marks → get_or marks i 0 ≤ 1
unfolding first_bad_mark
all_bits marks h i l = ltb-false 1 (get_or marks i 0) (seek_before (bad_mark marks) 0 (length marks) i (omega arith) (omega arith))
