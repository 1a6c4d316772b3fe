-- What refuses a call of `cover` or of `update` before any mark is made, in document 01's order.
use Rattle.std.specs.Prelude.{ℕ, ◌%◌, ◌+◌, Bool, cond, not, ◌||◌, List, length, eqb, ltb, Err}
use Rattle.records.specs.declared.refusal.Refusal.TheVariants.{Size, Length, Work}
use Rattle.records.specs.Tested.{field_tested, and_then}
use Rattle.cover_spec.specs.Marks.{work_needed}
use Rattle.cover_edges.specs.Edges.{edge_count, first_bad_edge, first_bad_mark}
use Rattle.records.specs.Answers.{Tested}

-- ---- cover

-- 1: at most 131,072 groups, 262,144 meta-peptides and 1,048,576 edges, counted in whole records
abbrev pub too_large : ℕ → ℕ → ℕ → Bool
too_large n groups metas = ltb 131072 groups || ltb 262144 metas || ltb 1048576 n

-- 9 at the first edge whose group or meta-peptide is not below its count
abbrev pub edges_tested : List ℕ → ℕ → ℕ → Tested
edges_tested bs groups metas = field_tested (first_bad_edge bs groups metas) (edge_count bs)

-- 1, then 8, then 10, then 9
abbrev pub cover_tested : List ℕ → ℕ → ℕ → ℕ → Tested
cover_tested bs groups metas words =
    cond (too_large (edge_count bs) groups metas) (Err Size)
    (cond (not (eqb (length bs % 8) 0)) (Err Length)
    (cond (ltb words (work_needed groups metas (edge_count bs))) (Err Work)
    (edges_tested bs groups metas)))

-- ---- update

-- 1: the limits of the cover, for either list of edges
abbrev pub either_too_large : ℕ → ℕ → ℕ → ℕ → Bool
either_too_large on nn groups metas = too_large on groups metas || too_large nn groups metas

-- 8: either list not whole records, or not a given mark for each group
abbrev pub lengths_wrong : List ℕ → List ℕ → ℕ → List ℕ → Bool
lengths_wrong old new groups given = not (eqb (length old % 8) 0) || not (eqb (length new % 8) 0) || not (eqb (length given) groups)

-- 9, list by list: at the first bad edge of the old ones, of the new ones, at the first mark that is not 0 or 1
abbrev pub contents_tested : List ℕ → List ℕ → ℕ → ℕ → List ℕ → Tested
contents_tested old new groups metas given =
    and_then (edges_tested old groups metas) (and_then (edges_tested new groups metas) (field_tested (first_bad_mark given) (length given)))

-- 1, then 8, then 10 for the old and new edges together, then 9
abbrev pub update_tested : List ℕ → List ℕ → ℕ → ℕ → List ℕ → ℕ → Tested
update_tested old new groups metas given words =
    cond (either_too_large (edge_count old) (edge_count new) groups metas) (Err Size)
    (cond (lengths_wrong old new groups given) (Err Length)
    (cond (ltb words (work_needed groups metas (edge_count old + edge_count new))) (Err Work)
    (contents_tested old new groups metas given)))
