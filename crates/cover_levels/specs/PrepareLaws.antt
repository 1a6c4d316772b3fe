-- The tables prepared: lists by group and by meta-peptide, and the order. Assumes nothing.
use Rattle.std.specs.Prelude.{◌≡◌, refl, List, map, ℕ, ◌+◌, ◌-◌, ◌*◌, ◌≤◌, ◌<◌, length, get_or}
use Rattle.std.proofs.Math.Path.{sym}
use Rattle.std.proofs.Common.{ap, ◌∙◌, inl, inr, arith, add-zero, zero-add}
use Rattle.std.proofs.Math.Dec.{eqb}
use Rattle.std.proofs.lemmas.List.{length-map}
use Rattle.lists.specs.Lists.{count}
use Rattle.lists.specs.KeepLaws.{count-le}
use Rattle.lists.specs.FrameLaws.{Framed, framed_then, framed_within}
use Rattle.records.specs.Le.{number_at}
use Rattle.sorting_counting.specs.declared.places.Places.{Places}
use Rattle.sorting_counting.specs.KeySorting.{Sortable, KeySorted}
use Rattle.cover_spec.specs.Cover.{Edge, group, meta, of_group, of_meta, same_edge}
use Rattle.cover_edges.specs.Edges.{edges_to}
use Rattle.cover_edges.specs.RangeLaws.{InRange}
use Rattle.cover_edges.specs.EdgeLaws.{length-edges}
use Rattle.cover_edges.specs.PutLaws.{Puts}
use Rattle.cover_tables.specs.declared.areas.Areas.{Areas}
use Rattle.cover_tables.specs.TableLaws.{Lists}
use Rattle.cover_first.specs.FirstLaws.{group_at, meta_at}
use Rattle.cover_levels.specs.KeyedLaws.{row_is, field_row, KeyLists, key-lists, key-lists-kept, lists_of, pairs_group, pairs_meta}

-- ---- where everything stands

pub record Layout (a : Areas) (k : ℕ) (w : List ℕ) : Type 0 where
  pub edges_at : a.ge ≡ a.groups + a.metas + a.groups
  pub groups-at : a.go ≡ a.ge + k + k + 1
  pub metas-at : a.mo ≡ a.go + a.groups + 1
  pub group-lists-at : a.gm ≡ a.mo + a.metas + 1
  pub meta-lists-at : a.mg ≡ a.gm + k
  pub order-at : a.od ≡ a.mg + k
  pub fits : a.od + a.groups ≤ length w
  pub room : a.od + a.groups ≤ 4294967295
  pub some : 0 < k
  pub few : k ≤ 1048576

pub layout_kept : {a : Areas} {k : ℕ} (w v : List ℕ) → length v ≡ length w → Layout a k w → Layout a k v
layout_kept w v l r = record {
  edges_at = r.edges_at;
  groups-at = r.groups-at;
  metas-at = r.metas-at;
  group-lists-at = r.group-lists-at;
  meta-lists-at = r.meta-lists-at;
  order-at = r.order-at;
  fits = omega (arith, r.fits);
  room = r.room;
  some = r.some;
  few = r.few;
}

-- the sums that the code makes are small, and what they reach stands in the slice
pub layout_small : {a : Areas} {k : ℕ} {w : List ℕ} → Layout a k w → (a.ge + k < 18446744073709551616) × (a.ge + k + 1 < 18446744073709551616) × (a.ge * 4 < 18446744073709551616) × (k + 1 < 18446744073709551616) × (a.groups ≤ 4294967295)
layout_small r = (omega arith, omega arith, omega arith, omega arith, omega arith)

pub layout_in : {a : Areas} {k l : ℕ} {w : List ℕ} → Layout a k w → l ≡ length w → (a.groups + a.metas + a.groups ≤ l) × (a.ge + k ≤ l) × (a.ge + k + 1 ≤ l)
layout_in r e = (omega arith, omega arith, omega arith)

-- the places of the tables for n groups, m meta-peptides and k edges
abbrev pub areas_of : ℕ → ℕ → ℕ → Areas
areas_of n m k =
    let ge = n + m + n in
    let go = ge + k + k + 1 in
    let mo = go + n + 1 in
    let gm = mo + m + 1 in
    let mg = gm + k in
    record { groups = n; metas = m; ge = ge; go = go; mo = mo; gm = gm; mg = mg; od = mg + k }

pub layout_of : (n m k : ℕ) (w : List ℕ) → 0 < k → k ≤ 1048576 → 4 * n + 2 * m + 4 * k + 3 ≤ length w → 4 * n + 2 * m + 4 * k + 3 ≤ 4294967295 → Layout (areas_of n m k) k w
layout_of n m k w z f a b = record {
  edges_at = refl;
  groups-at = refl;
  metas-at = refl;
  group-lists-at = refl;
  meta-lists-at = refl;
  order-at = refl;
  fits = omega arith;
  room = omega arith;
  some = z;
  few = f;
}

-- the three sorts: of the edges by their group, of the edges by their meta-peptide, of the groups by their rank
abbrev pub group_places : Areas → ℕ → Places
group_places a k = record { keys = a.ge; values = a.ge + k; count = k; bounds = a.go; kinds = a.groups; sorted = a.gm }

abbrev pub meta_places : Areas → ℕ → Places
meta_places a k = record { keys = a.ge + k; values = a.ge; count = k; bounds = a.mo; kinds = a.metas; sorted = a.mg }

abbrev pub rank_places : Areas → ℕ → Places
rank_places a k = record { keys = 0; values = a.groups + a.metas; count = a.groups; bounds = a.ge; kinds = k + 1; sorted = a.od }

-- ---- the two lists

-- what the edges in w look like before the lists are made
pub record EdgesIn (a : Areas) (bs : List ℕ) (k : ℕ) (w : List ℕ) : Type 0 where
  pub groups : (i : ℕ) → i < k → get_or w (a.ge + i) 0 ≡ group_at bs i
  pub metas : (i : ℕ) → i < k → get_or w (a.ge + k + i) 0 ≡ meta_at bs i
  pub zeros : (x : ℕ) → a.go ≤ x → x < a.od + a.groups → get_or w x 0 ≡ 0

pub edges-gathered : {a : Areas} {bs : List ℕ} {k : ℕ} {w v u z : List ℕ} → Layout a k w → Puts (λ i. 0) 0 (a.od + a.groups) w v → Puts (λ j. number_at 4 bs (8 * j + 0)) a.ge (a.ge + k) v u
    → Puts (meta_at bs) (a.ge + k) (a.ge + k + k) u z → EdgesIn a bs k z
edges-gathered {a} {bs} {k} {w} {v} {u} {z} r p q s = record {
  groups = λ j d. s.rest (a.ge + j) (inl (omega arith)) ∙ q.put j (omega arith) ∙ ap (number_at 4 bs) (add-zero (8 * j));
  metas = λ j d. s.put j (omega arith);
  zeros = λ x d e. s.rest x (inr (omega arith)) ∙ q.rest x (inr (omega arith)) ∙ ap (λ (t : ℕ). get_or v t 0) (sym (zero-add x)) ∙ p.put x (omega arith);
}

pub record ListsMade (a : Areas) (bs : List ℕ) (k : ℕ) (w : List ℕ) : Type 0 where
  pub by_group : KeyLists (map group (edges_to bs k)) (map meta (edges_to bs k)) a.go a.groups a.gm w
  pub by_meta : KeyLists (map meta (edges_to bs k)) (map group (edges_to bs k)) a.mo a.metas a.mg w

field-length : (f : Edge → ℕ) (bs : List ℕ) (k : ℕ) → length (map f (edges_to bs k)) ≡ k
field-length f bs k = length-map (edges_to bs k) f ∙ length-edges bs k

pub lists-kept : {a : Areas} {bs : List ℕ} {k : ℕ} {w v : List ℕ} → Layout a k w → length v ≡ length w → ((x : ℕ) → a.go ≤ x → x < a.od → get_or v x 0 ≡ get_or w x 0) → ListsMade a bs k w → ListsMade a bs k v
lists-kept {a} {bs} {k} r e s l = record {
  by_group = key-lists-kept e (λ x p q. s x p (omega arith)) (λ x p q. s x (omega arith) (omega (arith, field-length group bs k))) l.by_group;
  by_meta = key-lists-kept e (λ x p q. s x (omega arith) (omega arith)) (λ x p q. s x (omega arith) (omega (arith, field-length meta bs k))) l.by_meta;
}

module _ {a : Areas} {bs : List ℕ} {k : ℕ} {w : List ℕ} (r : Layout a k w) (inp : InRange bs k a.groups a.metas) (g : EdgesIn a bs k w) where
  pub group_sortable : Sortable (group_places a k) a.gm w
  group_sortable = record {
    keys_fit = omega arith;
    values_fit = omega arith;
    bounds_fit = omega arith;
    sorted_fit = omega arith;
    small = omega arith;
    apart = inl (omega arith);
    keys_bounds = inl (omega arith);
    keys-sorted = inl (omega arith);
    values_bounds = inl (omega arith);
    values_sorted = inl (omega arith);
    under = λ i b. rw (g.groups i b) (inp i b).0;
    zeros = λ x b. g.zeros (a.go + x) (omega arith) (omega arith);
  }

  module _ {v : List ℕ} (x : KeySorted (group_places a k) a.gm w v) (len : length v ≡ length w) where
    low : (y : ℕ) → y < a.go → get_or v y 0 ≡ get_or w y 0
    low y b = x.rest y (inl b) (inl (omega arith))

    in_group : (i : ℕ) → i < k → get_or v (a.ge + i) 0 ≡ group_at bs i
    in_group i b = low (a.ge + i) (omega arith) ∙ g.groups i b

    in_meta : (i : ℕ) → i < k → get_or v (a.ge + k + i) 0 ≡ meta_at bs i
    in_meta i b = low (a.ge + k + i) (omega arith) ∙ g.metas i b

    pub meta_sortable : Sortable (meta_places a k) a.mg v
    meta_sortable = record {
      keys_fit = omega arith;
      values_fit = omega arith;
      bounds_fit = omega arith;
      sorted_fit = omega arith;
      small = omega arith;
      apart = inl (omega arith);
      keys_bounds = inl (omega arith);
      keys-sorted = inl (omega arith);
      values_bounds = inl (omega arith);
      values_sorted = inl (omega arith);
      under = λ i b. rw (in_meta i b) (inp i b).1;
      zeros = λ y b. x.rest (a.mo + y) (inr (omega arith)) (inl (omega arith)) ∙ g.zeros (a.mo + y) (omega arith) (omega arith);
    }

    pub lists-made : {u : List ℕ} → KeySorted (meta_places a k) a.mg v u → length u ≡ length v → ListsMade a bs k u
    lists-made {u} y e = record {
      by_group = key-lists-kept e (λ z p q. y.rest z (inl (omega arith)) (inl (omega arith))) (λ z p q. y.rest z (inr (omega arith)) (inl (omega (arith, field-length group bs k))))
          (key-lists group_sortable x len (row_is (group_at bs) a.ge k w (omega arith) g.groups ∙ field_row group bs k) (row_is (meta_at bs) (a.ge + k) k w (omega arith) g.metas ∙ field_row meta bs k));
      by_meta = key-lists meta_sortable y e (row_is (meta_at bs) (a.ge + k) k v (omega arith) in_meta ∙ field_row meta bs k) (row_is (group_at bs) a.ge k v (omega arith) in_group ∙ field_row group bs k);
    }

-- ---- the order

-- a list has d entries, at most k: its boundaries stand at p and p + 1
pub record DegreeAt (p : ℕ) (v : List ℕ) (k d : ℕ) : Type 0 where
  pub inside : p + 1 < length v
  pub order : get_or v p 0 ≤ get_or v (p + 1) 0
  pub most : get_or v (p + 1) 0 - get_or v p 0 ≤ k
  pub is : get_or v (p + 1) 0 - get_or v p 0 ≡ d

module _ {a : Areas} {bs : List ℕ} {k : ℕ} {w : List ℕ} (r : Layout a k w) (l : ListsMade a bs k w) where
  pub group-lists : Lists (a.groups + a.metas + a.groups) a.go a.groups (λ x. of_group x (edges_to bs k)) (λ x y. count (same_edge (x, y)) (edges_to bs k)) w
  group-lists = lists_of group meta (edges_to bs k) (omega arith) (omega arith) (omega arith) (pairs_group (edges_to bs k)) l.by_group

  pub meta-lists : Lists (a.groups + a.metas + a.groups) a.mo a.metas (λ x. of_meta x (edges_to bs k)) (λ x y. count (same_edge (y, x)) (edges_to bs k)) w
  meta-lists = lists_of meta group (edges_to bs k) (omega arith) (omega arith) (omega arith) (pairs_meta (edges_to bs k)) l.by_meta

  -- while keys are put, the lists still say how many edges a group has
  pub rank_degree : {f : ℕ → ℕ} {v : List ℕ} {i : ℕ} (g : ℕ) → Puts f 0 i w v → i ≤ a.groups → g < a.groups → DegreeAt (a.go + g) v k (of_group g (edges_to bs k))
  rank_degree g h b c =
      let p = h.rest (a.go + g) (inr (omega arith)) in
      let q = h.rest (a.go + g + 1) (inr (omega arith)) in
      let s = group-lists.sizes g c in
      record { inside = omega (arith, h.size); order = omega arith; most = omega (arith, count-le (λ e. eqb (group e) g) (edges_to bs k), length-edges bs k); is = omega arith }

-- the keys and the numbers of the groups, the highest group first, and room for the boundaries
pub record RanksIn (a : Areas) (bs : List ℕ) (k : ℕ) (w v : List ℕ) : Type 0 where
  pub size : length v ≡ length w
  pub keys : (i : ℕ) → i < a.groups → get_or v (0 + i) 0 ≡ k - of_group (a.groups - 1 - i) (edges_to bs k)
  pub numbers : (i : ℕ) → i < a.groups → get_or v (a.groups + a.metas + i) 0 ≡ a.groups - 1 - i
  pub zeros : (x : ℕ) → x ≤ k → get_or v (a.ge + x) 0 ≡ 0
  pub rest : Framed 0 a.go w v

pub ranks_made : {a : Areas} {bs : List ℕ} {k : ℕ} {w v u z : List ℕ} → Layout a k w → Puts (λ i. k - of_group (a.groups - 1 - i) (edges_to bs k)) 0 a.groups w v
    → Puts (λ i. a.groups - 1 - i) (a.groups + a.metas) (a.groups + a.metas + a.groups) v u → Puts (λ i. 0) a.ge (a.ge + k + 1) u z → RanksIn a bs k w z
ranks_made {a} {bs} {k} {w} {v} {u} {z} r p q s = record {
  size = s.size ∙ q.size ∙ p.size;
  keys = λ i d. s.rest (0 + i) (inl (omega arith)) ∙ q.rest (0 + i) (inl (omega arith)) ∙ p.put i (omega arith);
  numbers = λ i d. s.rest (a.groups + a.metas + i) (inl (omega arith)) ∙ q.put i (omega arith);
  zeros = λ x d. s.put x (omega arith);
  rest = framed_then 0 a.go w u z (framed_then 0 a.go w v u (framed_within 0 0 a.groups a.go w v (omega arith) (omega arith) p.rest) (framed_within 0 (a.groups + a.metas) (a.groups + a.metas + a.groups) a.go v u (omega arith) (omega arith) q.rest)) (framed_within 0 a.ge (a.ge + k + 1) a.go u z (omega arith) (omega arith) s.rest);
}

module _ {a : Areas} {bs : List ℕ} {k : ℕ} {w v : List ℕ} (r : Layout a k w) (h : RanksIn a bs k w v) where
  pub rank_sortable : Sortable (rank_places a k) 0 v
  rank_sortable = record {
    keys_fit = omega (arith, h.size);
    values_fit = omega (arith, h.size);
    bounds_fit = omega (arith, h.size);
    sorted_fit = omega (arith, h.size);
    small = omega arith;
    apart = inl (omega arith);
    keys_bounds = inl (omega arith);
    keys-sorted = inl (omega arith);
    values_bounds = inl (omega arith);
    values_sorted = inl (omega arith);
    under = λ i b. omega (arith, h.keys i b);
    zeros = λ x b. h.zeros x (omega arith);
  }
