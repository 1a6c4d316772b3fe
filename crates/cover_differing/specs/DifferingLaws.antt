-- Why a walk along a group's old and new records says whether they differ. Assumes nothing.
use Rattle.std.specs.Prelude.{ℕ, ◌+◌, ◌-◌, ◌≤◌, ◌<◌, ◌≡◌, Bool, ◌&&◌, ◌||◌, List, ◌++◌, length}
use Rattle.std.proofs.Common.{arith, ◌∙◌, inr, ext_get_or, eqb-true, eq-eqb, ne_eqb}
use Rattle.std.proofs.Math.Path.{refl, sym, ap, subst}
use Rattle.std.proofs.Math.Bool.{true, false, not}
use Rattle.std.proofs.Math.Logic.{⊎_elim}
use Rattle.std.proofs.Math.ListN.{get_or}
use Rattle.std.proofs.Math.Dec.{eqb}
use Rattle.lists.specs.Tests.{below?, truth?}
use Rattle.lists.specs.Lists.{count, All}
use Rattle.lists.specs.FrameLaws.{Framed, framed_then, framed_within}
use Rattle.lists.specs.KeepLaws.{all_map, count_append, none, all_both}
use Rattle.cover_spec.specs.Cover.{Edge, group, meta, same_edge}
use Rattle.cover_spec.specs.Update.{differs}
use Rattle.cover_spec.proofs.ConnectedLaws.{member-some}
use Rattle.cover_edges.specs.ChainLaws.{chains_same}
use Rattle.cover_edges.specs.Edges.{edges_to}
use Rattle.cover_edges.specs.EdgeLaws.{edges-all}
use Rattle.cover_differing.specs.declared.links.Links.{Links}
use Rattle.cover_differing.specs.declared.passing.Pass.TheVariants.{Up, Off, Clear}
use Rattle.cover_differing.specs.Walking.{differing, of_pair, links_old, links_new, Walkable, Gone, GroupsLinked}
use Rattle.cover_differing.specs.WalkingLaws.{pair-le, up-all, off_all, off_yes, off_no, clear-all, clear_yes, clear_no}

-- ---- a group with an edge that differs

module _ (old new : List Edge) where
  abbrev J : List Edge
  J = old ++ new

  pub differing-has : (e : Edge) → 0 < count (same_edge e) J → differs old new e ≡ true → differing old new (group e) ≡ true
  unfolding differing
  differing-has e i q = member-some (λ d. eqb (group d) (group e) && differs old new d) e J i (rw (eq-eqb (group e) (group e) refl) q)

  differing_yes : (g m : ℕ) → (count (same_edge (g, m)) old ≡ count (same_edge (g, m)) new → ⊥) → differing old new g ≡ true
  differing_yes g m u =
      differing-has (g, m) (⊎_elim (λ (h : 0 < count (same_edge (g, m)) J). h) (λ (h : count (same_edge (g, m)) J ≤ 0). absurd (u (omega (arith, count_append (same_edge (g, m)) old new)))) (below? 0 (count (same_edge (g, m)) J)))
      (ap not (ne_eqb (count (same_edge (g, m)) old) (count (same_edge (g, m)) new) u))

  differing_no : (g metas : ℕ) → All (λ e. meta e < metas) J → ((m : ℕ) → m < metas → count (same_edge (g, m)) old ≡ count (same_edge (g, m)) new) → differing old new g ≡ false
  unfolding differing
  differing_no g metas inside h = none (λ e. eqb (group e) g && differs old new e) J (all_map (λ e l. go e l (eqb (group e) g) refl) J inside)
    where
      go : (e : Edge) → meta e < metas → (b : Bool) → eqb (group e) g ≡ b → (b && differs old new e) ≡ false
      go e l true i =
          let q : count (same_edge e) old ≡ count (same_edge e) new = subst (λ (x : ℕ). count (same_edge (x, meta e)) old ≡ count (same_edge (x, meta e)) new) (sym (eqb-true (group e) g i)) (h (meta e) l) in
          ap not (eq-eqb (count (same_edge e) old) (count (same_edge e) new) q)
      go e l false i = refl

-- the same records in a slice that agrees from the heads on
pub walkable_same : {t : Links} {bs : List ℕ} (w w' : List ℕ) → length w' ≡ length w → Framed 0 t.heads w w' → Walkable t bs w → Walkable t bs w'
walkable_same {t} {bs} w w' e s a = record {
  few = a.few;
  inside = a.inside;
  above = a.above;
  order = a.order;
  room = omega (arith, a.room);
  chains = chains_same w w' bs 0 t.records t.groups t.heads t.nexts (λ x l. s (t.heads + x) (inr (omega arith))) (λ i l. s (t.nexts + i) (inr (omega (arith, a.order)))) a.chains;
}

-- ---- the three passes, one after the other

module _ {old new w w₁ : List ℕ} {on nn groups metas g : ℕ} {quiet : Bool} (k : GroupsLinked old on new nn groups metas w) (a : Gone Up (links_old groups metas on) old g w w₁ quiet) where
  pub still_new : length w₁ ≡ length w → Walkable (links_new groups metas on nn) new w₁
  still_new e = walkable_same w w₁ e (framed_within 0 0 metas (metas + (1 + groups + metas) + groups) w w₁ (omega arith) (omega arith) a.rest) k.by-new

  counted : (m : ℕ) → m < metas → get_or w₁ m 0 ≡ of_pair g m old on
  counted m l = a.counts m l ∙ up-all (of_pair g m old on) (get_or w m 0) ∙ omega (arith, k.clean m l)

  pub counted_few : (m : ℕ) → m < metas → get_or w₁ m 0 ≤ 1048576
  counted_few m l = omega (arith, counted m l, pair-le g m old on, k.by_old.few)

  module _ {w₂ : List ℕ} {lack : Bool} (b : Gone Off (links_new groups metas on nn) new g w₁ w₂ lack) where
    changed_low : Framed 0 metas w w₂
    changed_low = framed_then 0 metas w w₁ w₂ a.rest b.rest

    pub still_old : length w₂ ≡ length w → Walkable (links_old groups metas on) old w₂
    still_old e = walkable_same w w₂ e (framed_within 0 0 metas (metas + (1 + groups + metas)) w w₂ (omega arith) (omega arith) changed_low) k.by_old

    off : (m : ℕ) → m < metas → get_or w₂ m 0 ≡ of_pair g m old on - of_pair g m new nn
    off m l = b.counts m l ∙ off_all (of_pair g m new nn) (get_or w₁ m 0) ∙ ap (λ (x : ℕ). x - of_pair g m new nn) (counted m l)

    pub off_few : (m : ℕ) → m < metas → get_or w₂ m 0 ≤ 1048576
    off_few m l = omega (arith, off m l, pair-le g m old on, k.by_old.few)

    module _ {w₃ : List ℕ} {left : Bool} (c : Gone Clear (links_old groups metas on) old g w₂ w₃ left) where
      pub differ_made : (lack || left) ≡ differing (edges_to old on) (edges_to new nn) g
      unfolding of_pair
      differ_made = sym (⊎_elim yes (λ (u : lack ≡ false). ⊎_elim (yes_left u) (nope u) (truth? left)) (truth? lack))
        where
          yes : lack ≡ true → differing (edges_to old on) (edges_to new nn) g ≡ (lack || left)
          yes e =
              let (m, l, q) = b.one e in
              let z : get_or w₁ m 0 < of_pair g m new nn = off_yes (of_pair g m new nn) (get_or w₁ m 0) q in
              differing_yes (edges_to old on) (edges_to new nn) g m (λ y. omega (arith, counted m l)) ∙ rw e

          yes_left : lack ≡ false → left ≡ true → differing (edges_to old on) (edges_to new nn) g ≡ (lack || left)
          yes_left u e =
              let (m, l, q) = c.one e in
              let z : 0 < get_or w₂ m 0 = clear_yes (of_pair g m old on) (get_or w₂ m 0) q in
              differing_yes (edges_to old on) (edges_to new nn) g m (λ y. omega (arith, off m l)) ∙ rw (u, e)

          even : lack ≡ false → left ≡ false → (m : ℕ) → m < metas → of_pair g m old on ≡ of_pair g m new nn
          even u v m l =
              let z : of_pair g m new nn ≤ get_or w₁ m 0 = off_no (of_pair g m new nn) (get_or w₁ m 0) (b.none u m l) in
              ⊎_elim (λ (y : 0 < of_pair g m old on). omega (arith, counted m l, off m l, clear_no (of_pair g m old on) (get_or w₂ m 0) y (c.none v m l)))
              (λ (y : of_pair g m old on ≤ 0). omega (arith, counted m l)) (below? 0 (of_pair g m old on))

          nope : lack ≡ false → left ≡ false → differing (edges_to old on) (edges_to new nn) g ≡ (lack || left)
          nope u v =
              differing_no (edges_to old on) (edges_to new nn) g metas
              (all_both _ (edges_to old on) (edges_to new nn) (all_map (λ e h. h.1) (edges_to old on) (edges-all old on groups metas k.by_old.inside)) (all_map (λ e h. h.1) (edges_to new nn) (edges-all new nn groups metas k.by-new.inside)))
              (even u v) ∙ rw (u, v)

      pub differ_same : length w₃ ≡ length w → w₃ ≡ w
      differ_same e = ext_get_or 0 w₃ w e (λ i h. ⊎_elim (clean i) (λ (q : metas ≤ i). framed_then 0 metas w w₂ w₃ changed_low c.rest i (inr q)) (below? i metas))
        where
          clean : (i : ℕ) → i < metas → get_or w₃ i 0 ≡ get_or w i 0
          clean i q = c.counts i q ∙ clear-all (of_pair g i old on) (get_or w₂ i 0) (λ z. omega (arith, off i q)) ∙ sym (k.clean i q)
