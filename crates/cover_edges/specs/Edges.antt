-- Document 01, "Sizes and records": an edge is 8 bytes, group u32 and meta-peptide u32, both below their counts; a mark is one byte,
-- 0 or 1, and so is a decoy flag.
use Rattle.std.specs.Prelude.{ℕ, zero, suc, ◌+◌, ◌*◌, ◌/◌, Bool, ◌||◌, List, [], ◌∷◌, ◌++◌, leb, ltb, length, get_or}
use Rattle.records.specs.Le.{le, number_at}
use Rattle.records.specs.Search.{seek}
use Rattle.cover_spec.specs.Cover.{Edge, group, meta}

-- how many whole records there are
abbrev pub edge_count : List ℕ → ℕ
edge_count bs = length bs / 8

-- record i: group, meta-peptide
abbrev pub edge_at : List ℕ → ℕ → Edge
edge_at bs i = (number_at 4 bs (8 * i), number_at 4 bs (8 * i + 4))

-- the first n records
unfoldable pub edges_to : List ℕ → ℕ → List Edge
edges_to bs zero = []
edges_to bs (suc n) = edges_to bs n ++ (edge_at bs n ∷ [])

-- all of them
abbrev pub edges_of : List ℕ → List Edge
edges_of bs = edges_to bs (edge_count bs)

-- an edge as a record
unfoldable pub edge_bytes : Edge → List ℕ
edge_bytes e = le 4 (group e) ++ le 4 (meta e)

-- an edge whose group or meta-peptide is not below its count
abbrev pub bad_edge : ℕ → ℕ → Edge → Bool
bad_edge groups metas e = leb groups (group e) || leb metas (meta e)

-- the first record that is one, or how many records there are
unfoldable pub first_bad_edge : List ℕ → ℕ → ℕ → ℕ
first_bad_edge bs groups metas = seek (λ i. bad_edge groups metas (edge_at bs i)) 0 (edge_count bs)

-- a mark that is not 0 or 1
abbrev pub bad_mark : List ℕ → ℕ → Bool
bad_mark marks i = ltb 1 (get_or marks i 0)

-- the first such, or how many there are
unfoldable pub first_bad_mark : List ℕ → ℕ
first_bad_mark marks = seek (bad_mark marks) 0 (length marks)
