-- What the marks of `cover` and `update` achieve, for every call that passes its tests. Assumes nothing.
use Rattle.std.specs.Prelude.{ℕ, ◌/◌, ◌≤◌, ◌<◌, ◌≡◌, refl, Bool, true, false, cond, ◌&&◌, List, length, get_or, eqb}
use Rattle.std.proofs.Common.{sym, ap, ◌∙◌, ⊎_elim, arith, ext_get_or, eqb-true, ltb-true}
use Rattle.std.proofs.Math.ListN.{get_or-eq_default}
use Rattle.cover_tests.specs.Testing.{cover_tested, update_tested}
use Rattle.cover_tests.specs.ReadyLaws.{cover_ready, UpdateReady, update_ready}
use Rattle.lists.specs.Tests.{below?, both}
use Rattle.lists.specs.Lists.{bit, count, keep, All}
use Rattle.lists.specs.KeepLaws.{count-keep, every, keep_same}
use Rattle.cover_spec.specs.Cover.{Edge, group, meta, of_meta, cover, cover_list, same_edge}
use Rattle.cover_spec.specs.Update.{touched}
use Rattle.cover_spec.specs.CountLaws.{all-at, count_determined, find}
use Rattle.cover_spec.proofs.ConnectedLaws.{◌∈◌}
use Rattle.cover_spec.proofs.ChoiceLaws.{GroupsUnder}
use Rattle.cover_spec.specs.ListedLaws.{get_or_listed, bit_is, length-cover}
use Rattle.cover_spec.proofs.LocalityLaws.{cover_local}
use Rattle.cover_spec.proofs.UpdateLaws.{update_list_lem}
use Rattle.cover_spec.proofs.TouchedLaws.{Touched, touched-to, touched_of}
use Rattle.cover_spec.proofs.CoverLaws.{neighbour, Marking, cover_marking}
use Rattle.cover_edges.specs.Edges.{edges_of}
use Rattle.cover_edges.specs.EdgeLaws.{edges_under}
use Rattle.cover.specs.Covering.{cover_marks}
use Rattle.cover.specs.Updating.{update_marks}
use Rattle.cover.specs.UpdatingLaws.{mark_of}
use Rattle.records.specs.Answers.{Passed}

-- ---- Document 01: "Also proved: each meta-peptide with an edge has a marked neighbour, and each marked group, when marked, newly
-- covered one."

module _ (bs : List ℕ) (groups metas words : ℕ) (p : cover_tested bs groups metas words ≡ Passed) where
  under : GroupsUnder groups (edges_of bs)
  under = edges_under bs (length bs / 8) groups metas (cover_ready bs groups metas words p).inside

  mark-at : (g : ℕ) → g < groups → get_or (cover_marks bs groups) g 0 ≡ bit (cover groups (edges_of bs) g)
  unfolding cover_list
  mark-at g h = get_or_listed groups (λ k. bit (cover groups (edges_of bs) k)) g h

  pub marked_neighbour : (m : ℕ) → 0 < of_meta m (edges_of bs) → (e : Edge) × (meta e ≡ m) × (e ∈ edges_of bs) × (get_or (cover_marks bs groups) (group e) 0 ≡ 1)
  marked_neighbour m h =
      let t : Edge → Bool = λ e. eqb (meta e) m && cover groups (edges_of bs) (group e) in
      let (e, q, i) = find t (edges_of bs) (ltb-true 0 (count t (edges_of bs)) (neighbour groups (edges_of bs) under m h)) in
      let r = both (eqb (meta e) m) (cover groups (edges_of bs) (group e)) q in
      (e, eqb-true (meta e) m r.0, i, mark-at (group e) (all-at (λ d. group d < groups) e (edges_of bs) under i) ∙ ap bit r.1)

  -- the moment when it was marked is a record of cover_spec: where the run stood, and the meta-peptide that was not covered there
  pub newly-covered : (g : ℕ) → get_or (cover_marks bs groups) g 0 ≡ 1 → Marking groups (edges_of bs) g
  newly-covered g h = ⊎_elim inside outside (below? g groups)
    where
      inside : g < groups → Marking groups (edges_of bs) g
      inside l = cover_marking groups (edges_of bs) under g (sym (bit_is (cover groups (edges_of bs) g)) ∙ ap (λ (k : ℕ). eqb k 1) (sym (mark-at g l) ∙ h))

      outside : groups ≤ g → Marking groups (edges_of bs) g
      outside l =
          let n : length (cover_marks bs groups) ≤ g = omega (arith, length-cover groups (edges_of bs)) in
          absurd (omega (arith, h, get_or-eq_default (cover_marks bs groups) 0 n))

-- ---- the cover of a part depends on that part's edges alone, and not on their order

module _ (bs₁ bs₂ : List ℕ) (groups metas words words' : ℕ) (p : cover_tested bs₁ groups metas words ≡ Passed) (q : cover_tested bs₂ groups metas words' ≡ Passed) where
  -- a set of groups and meta-peptides that no edge of the first list leaves, and of which the second list has each edge as often
  pub part-alone : (sg sm : ℕ → Bool) → All (λ e. sg (group e) ≡ sm (meta e)) (edges_of bs₁)
      → ((e : Edge) → count (same_edge e) (keep (λ d. sg (group d)) (edges_of bs₁)) ≡ count (same_edge e) (edges_of bs₂))
      → (g : ℕ) → g < groups → sg g ≡ true → get_or (cover_marks bs₁ groups) g 0 ≡ get_or (cover_marks bs₂ groups) g 0
  part-alone sg sm closed each g l i =
      mark-at bs₁ groups metas words p g l
      ∙ ap bit (cover_local sg sm groups (edges_of bs₁) (edges_of bs₂)
      (λ t. sym (count-keep t (λ d. sg (group d)) (edges_of bs₁)) ∙ count_determined (keep (λ d. sg (group d)) (edges_of bs₁)) (edges_of bs₂) each t)
      closed (under bs₁ groups metas words p) (under bs₂ groups metas words' q) g i)
      ∙ sym (mark-at bs₂ groups metas words' q g l)

  -- of the whole list: each edge as often in both
  pub order-alone : ((e : Edge) → count (same_edge e) (edges_of bs₁) ≡ count (same_edge e) (edges_of bs₂)) → cover_marks bs₁ groups ≡ cover_marks bs₂ groups
  order-alone each =
      ext_get_or 0 (cover_marks bs₁ groups) (cover_marks bs₂ groups) (length-cover groups (edges_of bs₁) ∙ sym (length-cover groups (edges_of bs₂)))
      (λ g l. part-alone (λ x. true) (λ x. true) (every _ (λ e. refl) (edges_of bs₁)) (λ e. ap (count (same_edge e)) (keep_same (λ d. true) (edges_of bs₁) (every _ (λ d. refl) (edges_of bs₁))) ∙ each e) g (omega (arith, length-cover groups (edges_of bs₁))) refl)

-- ---- the update

module _ (old new : List ℕ) (groups metas : ℕ) (given : List ℕ) (words : ℕ) (p : update_tested old new groups metas given words ≡ Passed) where
  tested : UpdateReady old new groups metas given words
  tested = update_ready old new groups metas given words p

  -- if the old marks were the cover of the old edges, the whole answer is the cover of the new ones
  pub update-covers : given ≡ cover_marks old groups → update_marks old new groups given ≡ cover_marks new groups
  update-covers e =
      ap (update_marks old new groups) e
      ∙ update_list_lem groups (edges_of old) (edges_of new) (edges_under old (length old / 8) groups metas tested.old_inside) (edges_under new (length new / 8) groups metas tested.of_new.inside)

  -- a group is touched if it is connected, in both lists joined, to an edge that stands a different number of times in the two; then
  -- its mark is the cover's
  pub touched-made : (g : ℕ) → g < groups → Touched (edges_of old) (edges_of new) g → get_or (update_marks old new groups given) g 0 ≡ get_or (cover_marks new groups) g 0
  touched-made g l t = mark_of old new groups metas given words tested g l ∙ rw (touched_of (edges_of old) (edges_of new) g t)

  -- every other group keeps the mark given
  pub untouched_kept : (g : ℕ) → g < groups → (Touched (edges_of old) (edges_of new) g → ⊥) → get_or (update_marks old new groups given) g 0 ≡ get_or given g 0
  untouched_kept g l u = mark_of old new groups metas given words tested g l ∙ go (touched (edges_of old) (edges_of new) g) refl
    where
      go : (b : Bool) → touched (edges_of old) (edges_of new) g ≡ b → cond b (get_or (cover_marks new groups) g 0) (get_or given g 0) ≡ get_or given g 0
      go true e = absurd (u (touched-to (edges_of old) (edges_of new) g e))
      go false e = refl
