-- Laws of the update's tables. Assumes nothing.
use Prim.Native.Nat.{ℕ, zero, suc, ◌+◌, ◌-◌, ◌≤◌, ◌<◌}
use native.Mathlib.Omega.{arith}
use Rattle.std.proofs.Common.{add-one, ◌∙◌, true≢false, inl}
use Rattle.std.specs.Prelude.{◌≡◌, Bool, cond, ◌&&◌, length, ltb}
use Rattle.std.proofs.Math.Path.{refl, sym, ap, subst}
use Rattle.std.proofs.Math.Bool.{true, false}
use Rattle.std.proofs.lemmas.Bool.{false≢true}
use Rattle.std.proofs.Math.Logic.{⊎_elim}
use mathlib.Core.List.{List, [], ◌∷◌, ◌++◌}
use Rattle.std.proofs.Math.Dec.{eqb}
use borrow.Author.Tests.{eqb-true, eq-eqb, ltb-true, lt-ltb, le-ltb}
use Rattle.cover_joining.specs.Joining.{Forest, Held, Joined, nodes, edge_links}
use Rattle.cover_differing.specs.Walking.{differing, GroupsLinked}
use Rattle.lists.specs.Tests.{same?, below?, both}
use Rattle.lists.specs.Lists.{count, All}
use Rattle.lists.specs.KeepLaws.{all_map, all-has, all_append, all_two, all_both}
use Rattle.cover_spec.specs.Cover.{Edge, group, meta, same_edge}
use Rattle.cover_spec.specs.Update.{differs, touched}
use Rattle.cover_spec.specs.CountLaws.{find}
use Rattle.cover_spec.proofs.ConnectedLaws.{here}
use Rattle.cover_spec.proofs.TouchedLaws.{Touched, touched_meta, touched-to, touched_of, touched_linked, flags_touched}
use Rattle.lists.specs.FrameLaws.{Framed, framed_within}
use Rattle.cover_edges.specs.Edges.{edge_at, edges_to}
use Rattle.cover_edges.specs.RangeLaws.{InRange}
use Rattle.cover_edges.specs.EdgeLaws.{edges-all}
use Rattle.cover_touched.specs.Touching.{seeds, PartsTell}
use Rattle.cover_joining.specs.JoiningLaws.{joined-none, joined_then}
use Rattle.cover_differing.specs.DifferingLaws.{differing-has, walkable_same}

-- ---- more links, one by one

pub seeds-start : (d : ℕ → Bool) (w : List ℕ) (p n : ℕ) → Forest w p n → Joined (seeds d 0) w w p n
unfolding seeds
seeds-start d w p n f = joined-none w p n f

pub seeds-turn : (d : ℕ → Bool) (u v w : List ℕ) (p n k : ℕ) → Joined (seeds d k) u v p n → Joined (λ links. cond (d k) ((0, 1 + k) ∷ links) links) v w p n → Joined (seeds d (k + 1)) u w p n
unfolding seeds
seeds-turn d u v w p n k a b = rw add-one (joined_then a b)

pub seeds_end : (d : ℕ → Bool) (u w : List ℕ) (p n k groups : ℕ) → k ≡ groups → Joined (seeds d k) u w p n → Joined (seeds d groups) u w p n
seeds_end d u w p n k groups e j = subst (λ (x : ℕ). Joined (seeds d x) u w p n) e j

-- a call answered r, which says whether the group is joined
pub seed_yes : {w w' : List ℕ} {p n : ℕ} (r b : Bool) (g : ℕ) → r ≡ b → r ≡ true → Joined (λ links. (0, 1 + g) ∷ links) w w' p n → Joined (λ links. cond b ((0, 1 + g) ∷ links) links) w w' p n
seed_yes r true g e t j = j
seed_yes r false g e t j = absurd (true≢false (sym t ∙ e))

pub seed_no : {w : List ℕ} {p n : ℕ} (r b : Bool) (g : ℕ) → r ≡ b → r ≡ false → Forest w p n → Joined (λ links. cond b ((0, 1 + g) ∷ links) links) w w p n
seed_no {w} {p} {n} r true g e t f = absurd (true≢false (sym e ∙ t))
seed_no {w} {p} {n} r false g e t f = joined-none w p n f

-- ---- what holds of all links

module _ (P : Edge → Type 0) where
  edges_split : (groups : ℕ) (bs : List ℕ) (n : ℕ) (links : List Edge) → All P (edge_links groups bs n links) → All (λ e. P (1 + group e, 1 + groups + meta e)) (edges_to bs n) × All P links
  unfolding edge_links edges_to
  edges_split groups bs zero links h = (tt, h)
  edges_split groups bs (suc n) links h = let (a, b) = edges_split groups bs n links h.1 in (all_both _ (edges_to bs n) (edge_at bs n ∷ []) a (h.0, tt), b)

  edges_make : (groups : ℕ) (bs : List ℕ) (n : ℕ) (links : List Edge) → All (λ e. P (1 + group e, 1 + groups + meta e)) (edges_to bs n) → All P links → All P (edge_links groups bs n links)
  unfolding edge_links edges_to
  edges_make groups bs zero links a b = b
  edges_make groups bs (suc n) links a b = let (x, y) = all_append _ (edges_to bs n) (edge_at bs n ∷ []) a in (y.0, edges_make groups bs n links x b)

  seeds_split : (d : ℕ → Bool) (k : ℕ) (links : List Edge) → All P (seeds d k links) → ((g : ℕ) → g < k → d g ≡ true → P (0, 1 + g)) × All P links
  unfolding seeds
  seeds_split d zero links h = (λ g l e. absurd (omega arith), h)
  seeds_split d (suc k) links h = go (d k) refl h (seeds_split d k links)
    where
      more : ((g : ℕ) → g < k → d g ≡ true → P (0, 1 + g)) → (d k ≡ true → P (0, 1 + k)) → (g : ℕ) → g < suc k → d g ≡ true → P (0, 1 + g)
      more f p g l e = ⊎_elim (λ (q : g ≡ k). subst (λ (x : ℕ). P (0, 1 + x)) (sym q) (p (ap d (sym q) ∙ e))) (λ (u : g ≡ k → ⊥). f g (⊎_elim (λ (y : g < k). y) (λ (y : k ≤ g). absurd (u (omega arith))) (below? g k)) e) (same? g k)

      go : (b : Bool) → d k ≡ b → All P (cond b ((0, 1 + k) ∷ seeds d k links) (seeds d k links)) → (All P (seeds d k links) → ((g : ℕ) → g < k → d g ≡ true → P (0, 1 + g)) × All P links)
          → ((g : ℕ) → g < suc k → d g ≡ true → P (0, 1 + g)) × All P links
      go true i r f = let (x, y) = f r.1 in (more x (λ z. r.0), y)
      go false i r f = let (x, y) = f r in (more x (λ z. absurd (false≢true (sym i ∙ z))), y)

  seeds_make : (d : ℕ → Bool) (k : ℕ) (links : List Edge) → ((g : ℕ) → g < k → d g ≡ true → P (0, 1 + g)) → All P links → All P (seeds d k links)
  unfolding seeds
  seeds_make d zero links f b = b
  seeds_make d (suc k) links f b = go (d k) refl (seeds_make d k links (λ g l e. f g (omega arith) e) b)
    where
      go : (t : Bool) → d k ≡ t → All P (seeds d k links) → All P (cond t ((0, 1 + k) ∷ seeds d k links) (seeds d k links))
      go true i r = (f k (omega arith) i, r)
      go false i r = r

-- ---- a group with an edge that differs

module _ (old new : List Edge) where
  abbrev J : List Edge
  J = old ++ new

  seed_edge : (g : ℕ) → differing old new g ≡ true → touched old new g ≡ true
  unfolding differing
  seed_edge g i =
      let (e, j, z) = find (λ d. eqb (group d) g && differs old new d) J (ltb-true 0 (count (λ d. eqb (group d) g && differs old new d) J) i) in
      let (a, b) = both (eqb (group e) g) (differs old new e) j in
      ap (touched old new) (sym (eqb-true (group e) g a)) ∙ touched_of old new (group e) (e, z, b, here)

  -- what is touched, node by node
  label : ℕ → ℕ → Bool
  label groups zero = true
  label groups (suc x) = cond (ltb x groups) (touched old new x) (touched_meta old new (x - groups))

  label_group : (groups g : ℕ) → g < groups → label groups (1 + g) ≡ touched old new g
  unfolding label
  label_group groups g l = let z : 1 + g ≡ suc g = omega arith in rw (z, lt-ltb g groups l)

  label_meta : (groups m : ℕ) → label groups (1 + groups + m) ≡ touched_meta old new m
  unfolding label
  label_meta groups m =
      let z : 1 + groups + m ≡ suc (groups + m) = omega arith in
      let y : groups + m - groups ≡ m = omega arith in
      rw (z, le-ltb (groups + m) groups (omega arith), y)

  label_edges : (groups metas : ℕ) → All (λ e. (group e < groups) × (meta e < metas)) J → All (λ e. label groups (1 + group e) ≡ label groups (1 + groups + meta e)) J
  label_edges groups metas h =
      all_map (λ e r. label_group groups (group e) r.0.0 ∙ r.1 ∙ sym (label_meta groups (meta e))) J (all_two _ _ J h (touched_linked old new))

-- ---- the parts tell what is touched

module _ (old : List ℕ) (on : ℕ) (new : List ℕ) (nn groups metas : ℕ) (w : List ℕ) (io : InRange old on groups metas) (iw : InRange new nn groups metas) (f : Forest w metas (nodes groups metas))
    (h : Held (seeds (differing (edges_to old on) (edges_to new nn)) groups (edge_links groups new nn (edge_links groups old on []))) w metas (nodes groups metas)) where
  abbrev olds : List Edge
  olds = edges_to old on

  abbrev news : List Edge
  news = edges_to new nn

  abbrev both-lists : List Edge
  both-lists = olds ++ news

  inside : All (λ e. (group e < groups) × (meta e < metas)) both-lists
  inside = all_both _ olds news (edges-all old on groups metas io) (edges-all new nn groups metas iw)

  abbrev touches : ℕ → Bool
  touches x = eqb (h.rep x) 0

  by_seed : (g : ℕ) → g < groups → differing olds news g ≡ true → h.rep 0 ≡ h.rep (1 + g)
  by_seed = (seeds_split (λ l. h.rep l.0 ≡ h.rep l.1) (differing olds news) groups (edge_links groups new nn (edge_links groups old on [])) h.joins).0

  by-edge : All (λ e. h.rep (1 + group e) ≡ h.rep (1 + groups + meta e)) both-lists
  by-edge =
      let P : Edge → Type 0 = λ l. h.rep l.0 ≡ h.rep l.1 in
      let s = (seeds_split P (differing olds news) groups (edge_links groups new nn (edge_links groups old on [])) h.joins).1 in
      let (a, r) = edges_split P groups new nn (edge_links groups old on []) s in
      all_both _ olds news (edges_split P groups old on [] r).0 a

  zero_top : h.rep 0 ≡ 0
  zero_top = h.reps.top 0 (omega arith) (omega (arith, f.down 0 (omega arith)))

  labelled : All (λ l. label olds news groups l.0 ≡ label olds news groups l.1) (seeds (differing olds news) groups (edge_links groups new nn (edge_links groups old on [])))
  unfolding label
  labelled =
      let P : Edge → Type 0 = λ l. label olds news groups l.0 ≡ label olds news groups l.1 in
      let (a, b) = all_append _ olds news (label_edges olds news groups metas inside) in
      seeds_make P (differing olds news) groups (edge_links groups new nn (edge_links groups old on [])) (λ g l e. sym (label_group olds news groups g l ∙ seed_edge olds news g e))
      (edges_make P groups new nn (edge_links groups old on []) b (edges_make P groups old on [] a tt))

  sound : (g : ℕ) → g < groups → touches (1 + g) ≡ true → touched olds news g ≡ true
  unfolding label
  sound g l e =
      sym (label_group olds news groups g l) ∙ h.only (label olds news groups) labelled (1 + g) (omega arith) ∙ ap (label olds news groups) (eqb-true (h.rep (1 + g)) 0 e)

  guarded : (g : ℕ) (b : Bool) → ltb g groups ≡ b → (b && touches (1 + g)) ≡ true → Touched olds news g
  guarded g true i e = touched-to olds news g (sound g (ltb-true g groups i) e)
  guarded g false i e = absurd (false≢true e)

  told : (g : ℕ) → g < groups → touches (1 + g) ≡ touched olds news g
  told g l =
      sym (ap (λ (b : Bool). b && touches (1 + g)) (lt-ltb g groups l))
      ∙ flags_touched olds news (λ x. ltb x groups && touches (1 + x)) (λ m. touches (1 + groups + m))
      (all_map (λ e r. ap (λ (b : Bool). b && touches (1 + group e)) (lt-ltb (group e) groups r.0.0) ∙ ap (λ (x : ℕ). eqb x 0) r.1) both-lists (all_two _ _ both-lists inside by-edge))
      (all_map (λ e r q. ap (λ (b : Bool). b && touches (1 + group e)) (lt-ltb (group e) groups r.0.0) ∙ eq-eqb (h.rep (1 + group e)) 0 (sym (by_seed (group e) r.0.0 (differing-has olds news e (r.1 (same_edge e) (rw (eq-eqb (group e) (group e) refl, eq-eqb (meta e) (meta e) refl))) q)) ∙ zero_top)) both-lists (all_two _ _ both-lists inside (all-has both-lists)))
      (λ x e. guarded x (ltb x groups) refl e) g

  pub parts_told : PartsTell olds news groups metas w
  parts_told = record { forest = f; rep = h.rep; reps = h.reps; says = told }

-- ---- one group's edges counted, taken off and swept

-- a table that agrees outside of the nodes
pub linked_same : {old new : List ℕ} {on nn groups metas : ℕ} (w w' : List ℕ) → length w' ≡ length w → Framed metas (metas + nodes groups metas) w w' → GroupsLinked old on new nn groups metas w → GroupsLinked old on new nn groups metas w'
linked_same {old} {new} {on} {nn} {groups} {metas} w w' e s k = record {
  groups-max = k.groups-max;
  metas-max = k.metas-max;
  by_old = walkable_same w w' e (above (omega arith)) k.by_old;
  by-new = walkable_same w w' e (above (omega arith)) k.by-new;
  clean = λ m l. s m (inl l) ∙ k.clean m l;
}
  where
    above : {a : ℕ} → metas + nodes groups metas ≤ a → Framed 0 a w w'
    above h = framed_within 0 metas (metas + nodes groups metas) _ w w' (omega arith) h s
