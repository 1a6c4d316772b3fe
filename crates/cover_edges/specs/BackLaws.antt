-- Edges written as records are read back, and where they are in range none is bad. Assumes nothing.
use Prim.Native.Nat.{ℕ, zero, suc, ◌+◌, ◌*◌, ◌/◌, ◌≤◌, ◌<◌}
use Rattle.std.specs.Prelude.{◌≡◌, refl, Bool, false, get_or, take, drop}
use Rattle.std.proofs.Common.{sym, ◌∙◌, true≢false, zero-add, arith}
use Rattle.std.proofs.Math.Path.{ap}
use Rattle.std.proofs.Math.Logic.{⊎_elim}
use mathlib.Core.List.{List, [], ◌∷◌, ◌++◌, flatten, map, append-nil, append_assoc}
use Rattle.std.proofs.lemmas.Bool.{lt-leb}
use Rattle.std.proofs.Math.ListN.{length}
use Rattle.std.proofs.lemmas.List.{length-map}
use Rattle.std.proofs.Math.Seq.{drop-append-add}
use Rattle.lists.specs.KeepLaws.{map-all}
use Rattle.lists.specs.Tests.{below?}
use Rattle.lists.specs.Lists.{All}
use Rattle.lists.specs.KeepLaws.{all_map}
use Rattle.records.specs.Le.{value, number_at}
use Rattle.records.specs.LeLaws.{value-le}
use Rattle.records.specs.RoomLaws.{Sized, length_flatten}
use Rattle.records.specs.Search.{seek}
use Rattle.records.specs.SearchLaws.{seek-passes, seek-to}
use Rattle.cover_spec.specs.Cover.{Edge, group, meta}
use Rattle.cover_edges.specs.Edges.{edge_at, edges_to, edges_of, edge_bytes, bad_edge, first_bad_edge}

-- the numbers of all edges fit their fields
abbrev pub StorableEdge : List Edge → Type 0
StorableEdge es = All (λ e. (group e < 4294967296) × (meta e < 4294967296)) es

pub length-edge : (e : Edge) → length (edge_bytes e) ≡ 8
unfolding edge_bytes
length-edge e = refl

pub sized_edges : (es : List Edge) → Sized 8 (map edge_bytes es)
sized_edges es = map-all (λ (r : List ℕ). length r ≡ 8) edge_bytes length-edge es

-- a record in front, and those behind it
first_edge : (e : Edge) (rest : List ℕ) → group e < 4294967296 → meta e < 4294967296 → edge_at (edge_bytes e ++ rest) 0 ≡ e
unfolding number_at edge_bytes
first_edge e rest g m = λ i. (value-le 4 (group e) g i, value-le 4 (meta e) m i)

later_edge : (e : Edge) (rest : List ℕ) (i : ℕ) → edge_at (edge_bytes e ++ rest) (suc i) ≡ edge_at rest i
unfolding number_at
later_edge e rest i =
    let l : length (edge_bytes e) ≡ 8 = length-edge e in
    let a : 8 * suc i ≡ length (edge_bytes e) + 8 * i = omega arith in
    let b : 8 * suc i + 4 ≡ length (edge_bytes e) + (8 * i + 4) = omega arith in
    λ j. (
      (ap (λ (x : ℕ). value (take 4 (drop x (edge_bytes e ++ rest)))) a ∙ ap (λ (l : List ℕ). value (take 4 l)) (drop-append-add (edge_bytes e) rest (8 * i))) j,
      (ap (λ (x : ℕ). value (take 4 (drop x (edge_bytes e ++ rest)))) b ∙ ap (λ (l : List ℕ). value (take 4 l)) (drop-append-add (edge_bytes e) rest (8 * i + 4))) j,
    )

-- record i is the i-th edge
pub edge_back : (es : List Edge) → StorableEdge es → (i : ℕ) → i < length es → edge_at (flatten (map edge_bytes es)) i ≡ get_or es i (0, 0)
unfolding flatten
edge_back [] h i l = absurd (omega arith)
edge_back (e ∷ es) h zero l = first_edge e (flatten (map edge_bytes es)) h.0.0 h.0.1
edge_back (e ∷ es) h (suc i) l = later_edge e (flatten (map edge_bytes es)) i ∙ edge_back es h.1 i (omega arith)

edges-on : (bs : List ℕ) (a : ℕ) (es : List Edge) → ((i : ℕ) → i < length es → edge_at bs (a + i) ≡ get_or es i (0, 0)) → edges_to bs (a + length es) ≡ edges_to bs a ++ es
unfolding edges_to
edges-on bs a [] h = let z : a + 0 ≡ a = omega arith in ap (edges_to bs) z ∙ sym (append-nil (edges_to bs a))
edges-on bs a (e ∷ es) h =
    let z : a + suc (length es) ≡ suc a + length es = omega arith in
    let y : a + 0 ≡ a = omega arith in
    let x : edge_at bs a ≡ e = ap (edge_at bs) (sym y) ∙ h 0 (omega arith) in
    ap (edges_to bs) z
    ∙ edges-on bs (suc a) es (λ i l. let w : suc a + i ≡ a + suc i = omega arith in ap (edge_at bs) w ∙ h (suc i) (omega arith))
    ∙ ap (λ (l : List Edge). l ++ es) (one_more bs a ∙ ap (λ (d : Edge). edges_to bs a ++ (d ∷ [])) x)
    ∙ append_assoc (edges_to bs a) (e ∷ []) es
  where
    one_more : (bs : List ℕ) (a : ℕ) → edges_to bs (suc a) ≡ edges_to bs a ++ (edge_at bs a ∷ [])
    one_more bs a = refl

pub count-edges : (es : List Edge) → length (flatten (map edge_bytes es)) / 8 ≡ length es
count-edges es = let e : length (flatten (map edge_bytes es)) ≡ 8 * length es = length_flatten 8 (map edge_bytes es) (sized_edges es) ∙ ap (λ (n : ℕ). 8 * n) (length-map es edge_bytes) in omega arith

-- THE LAW
pub edges_back : (es : List Edge) → StorableEdge es → edges_of (flatten (map edge_bytes es)) ≡ es
unfolding edges_to
edges_back es h =
    ap (edges_to (flatten (map edge_bytes es))) (count-edges es)
    ∙ ap (edges_to (flatten (map edge_bytes es))) (sym (zero-add (length es)))
    ∙ edges-on (flatten (map edge_bytes es)) 0 es (λ i l. ap (edge_at (flatten (map edge_bytes es))) (zero-add i) ∙ edge_back es h i l)

-- edges in range are accepted
module _ (groups metas : ℕ) (g : groups ≤ 4294967296) (m : metas ≤ 4294967296) where
  pub ranged_storable : (es : List Edge) → All (λ e. (group e < groups) × (meta e < metas)) es → StorableEdge es
  ranged_storable es h = all_map (λ e k. (omega arith, omega arith)) es h

  at-range : (es : List Edge) → All (λ e. (group e < groups) × (meta e < metas)) es → (i : ℕ) → i < length es → (group (get_or es i (0, 0)) < groups) × (meta (get_or es i (0, 0)) < metas)
  at-range [] h i l = absurd (omega arith)
  at-range (e ∷ es) h zero l = h.0
  at-range (e ∷ es) h (suc i) l = at-range es h.1 i (omega arith)

  all_good : (es : List Edge) → All (λ e. (group e < groups) × (meta e < metas)) es → (i : ℕ) → i < length es → bad_edge groups metas (edge_at (flatten (map edge_bytes es)) i) ≡ false
  all_good es h i l =
      let r = at-range es h i l in
      ap (bad_edge groups metas) (edge_back es (ranged_storable es h) i l)
      ∙ rw (lt-leb groups (group (get_or es i (0, 0))) r.0, lt-leb metas (meta (get_or es i (0, 0))) r.1)

  pub edges-accepted : (es : List Edge) → All (λ e. (group e < groups) × (meta e < metas)) es → first_bad_edge (flatten (map edge_bytes es)) groups metas ≡ length es
  unfolding first_bad_edge
  edges-accepted es h =
      ap (seek bad 0) (count-edges es)
      ∙ ⊎_elim (λ (l : seek bad 0 n < 0 + n). absurd (true≢false (sym (seek-passes bad 0 n l) ∙ all_good es h (seek bad 0 n) (omega arith))))
      (λ (l : 0 + n ≤ seek bad 0 n). let e : seek bad 0 n ≡ n = omega (arith, seek-to bad 0 n) in e) (below? (seek bad 0 n) (0 + n))
    where
      n : ℕ
      n = length es

      bad : ℕ → Bool
      bad i = bad_edge groups metas (edge_at (flatten (map edge_bytes es)) i)
