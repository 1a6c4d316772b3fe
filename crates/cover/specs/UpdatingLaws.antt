-- What is known where the tests of an update passed, and the marks that it hands out. Assumes nothing.
use Rattle.std.specs.Prelude.{ℕ, zero, suc, ◌+◌, ◌/◌, ◌≤◌, ◌<◌, min, ◌≡◌, true, false, cond, List, [], ◌∷◌, length, get_or, set, replicate, eqb, Ok, Err}
use Rattle.std.proofs.Common.{sym, ap, ◌∙◌, subst, inl, inr, arith, add-zero, length-set, ext_get_or, get_or-set_same, eqb-true}
use Rattle.std.proofs.Math.Logic.{⊎_elim}
use Rattle.std.proofs.lemmas.List.Edits.{sets}
use Rattle.std.proofs.Math.Seq.{length-sets}
use Rattle.std.proofs.lemmas.Bool.{eqb-false}
use Rattle.lists.specs.Tests.{below?, truth?}
use Rattle.lists.specs.Lists.{bit}
use Rattle.records.specs.declared.refusal.Refusal.TheVariants.{Room}
use Rattle.records.specs.LeLaws.{get_or-sets_other}
use Rattle.records.specs.Outcome.{Outcome, outcome}
use Rattle.records.specs.Room.{fits, fitted, singly}
use Rattle.records.specs.RoomLaws.{stored-text, fits-text}
use Rattle.cover_spec.specs.Cover.{cover_list}
use Rattle.cover_spec.specs.ListedLaws.{length-listed, get_or_listed, length-cover}
use Rattle.cover_spec.specs.Marks.{handed}
use Rattle.cover_spec.specs.Update.{touched, update, update_list}
use Rattle.cover_edges.specs.Edges.{edges_of}
use Rattle.cover_touched.specs.Touching.{UpdateSized, Mixed}
use Rattle.cover_tests.specs.ReadyLaws.{UpdateReady}
use Rattle.cover.specs.Covering.{cover_marks}
use Rattle.cover.specs.Updating.{update_marks}
use Rattle.records.specs.Answers.{Counted}

pub update_sized : {old new given : List ℕ} {groups metas words : ℕ} → UpdateReady old new groups metas given words → 1 ≤ groups → UpdateSized old (length old / 8) new (length new / 8) groups metas words
update_sized {old} {new} {given} {groups} {metas} {words} r h = record {
  old_few = r.old_few;
  new_few = r.of_new.few;
  groups-max = r.of_new.groups-max;
  metas-max = r.of_new.metas-max;
  old_inside = r.old_inside;
  new_inside = r.of_new.inside;
  room = omega (arith, r.enough);
}

-- ---- the marks: those of the cover stand in marks₁, and of the first ones those of groups that are not touched become the given ones

get_or-sets : (vs s : List ℕ) (at j : ℕ) → j < length vs → at + j < length s → get_or (sets s at vs) (at + j) 0 ≡ get_or vs j 0
get_or-sets [] s at j h l = absurd (omega arith)
get_or-sets (v ∷ vs) s at zero h l =
    rw (add-zero at) (get_or-sets_other vs (set s at v) (suc at) at (inl (omega arith)) ∙ get_or-set_same s at v 0 (omega arith))
get_or-sets (v ∷ vs) s at (suc j) h l =
    let z : at + suc j ≡ suc at + j = omega arith in
    rw z (get_or-sets vs (set s at v) (suc at) j (omega arith) (rw length-set (omega arith)))

-- a list written to the front of a slice, mark by mark
module _ (vs s t : List ℕ) (long : length t ≡ length s) (front : (i : ℕ) → i < length vs → i < length s → get_or t i 0 ≡ get_or vs i 0) (rest : (i : ℕ) → length vs ≤ i → get_or t i 0 ≡ get_or s i 0) where
  pub as_sets : t ≡ sets s 0 vs
  as_sets = ext_get_or 0 t (sets s 0 vs) (long ∙ sym (length-sets s 0 vs)) (λ i l. ⊎_elim (λ (h : i < length vs). front i h (omega arith) ∙ sym (at_front i h (omega arith))) (λ (h : length vs ≤ i). rest i h ∙ sym (get_or-sets_other vs s 0 i (inr (omega arith)))) (below? i (length vs)))
    where
      at_front : (i : ℕ) → i < length vs → i < length s → get_or (sets s 0 vs) i 0 ≡ get_or vs i 0
      at_front i h l = let z : 0 + i ≡ i = omega arith in subst (λ (x : ℕ). get_or (sets s 0 vs) x 0 ≡ get_or vs i 0) z (get_or-sets vs s 0 i h (omega arith))

bit_of : (v : ℕ) → v ≤ 1 → bit (eqb v 1) ≡ v
bit_of v h = ⊎_elim (λ (e : eqb v 1 ≡ true). rw e (sym (eqb-true v 1 e))) (λ (e : eqb v 1 ≡ false). rw e (zero_is (eqb-false v 1 e))) (truth? (eqb v 1))
  where
    zero_is : (v ≡ 1 → ⊥) → 0 ≡ v
    zero_is u = ⊎_elim (λ (y : v < 1). omega arith) (λ (y : 1 ≤ v). absurd (u (omega arith))) (below? v 1)

module _ (old new : List ℕ) (groups metas : ℕ) (given : List ℕ) (words : ℕ) (ready : UpdateReady old new groups metas given words) where
  made : length (cover_marks new groups) ≡ groups
  made = length-cover groups (edges_of new)

  updated : length (update_marks old new groups given) ≡ groups
  unfolding update_list
  updated = length-listed groups _

  -- the answer's mark of a group
  pub mark_of : (g : ℕ) → g < groups → get_or (update_marks old new groups given) g 0 ≡ cond (touched (edges_of old) (edges_of new) g) (get_or (cover_marks new groups) g 0) (get_or given g 0)
  unfolding update_list update cover_list
  mark_of g l =
      get_or_listed groups _ g l
      ∙ ⊎_elim (λ (e : touched (edges_of old) (edges_of new) g ≡ true). rw e (sym (get_or_listed groups _ g l)))
      (λ (e : touched (edges_of old) (edges_of new) g ≡ false). rw e (bit_of (get_or given g 0) (ready.bits g (omega (arith, ready.as_many))))) (truth? (touched (edges_of old) (edges_of new) g))

  pub renewed : (work marks w₁ marks₁ w₂ marks₂ : List ℕ) (r : Counted) → outcome r (w₁ ∷ marks₁ ∷ []) ≡ handed work marks (cover_marks new groups)
      → w₂ ≡ replicate (length w₁) 0 → length w₁ ≡ length work → length marks₁ ≡ length marks → length marks₂ ≡ length marks₁
      → Mixed (edges_of old) (edges_of new) given (min groups (length marks₁)) marks₁ marks₂ → outcome r (w₂ ∷ marks₂ ∷ []) ≡ handed work marks (update_marks old new groups given)
  renewed work marks w₁ marks₁ w₂ marks₂ r e z lw lm lm₂ mix =
      let few : length (cover_marks new groups) ≤ 131072 = omega (arith, made, ready.of_new.groups-max) in
      let few' : length (update_marks old new groups given) ≤ 131072 = omega (arith, updated, ready.of_new.groups-max) in
      let was : marks₁ ≡ sets marks 0 (cover_marks new groups) = second e ∙ sym (stored-text 131072 (cover_marks new groups) marks few) in
      let is : marks₂ ≡ sets marks 0 (update_marks old new groups given) =
      as_sets (update_marks old new groups given) marks marks₂ (lm₂ ∙ lm)
      (λ i h l. mix.here i (omega (arith, updated)) ∙ ap (λ (v : ℕ). cond (touched (edges_of old) (edges_of new) i) v (get_or given i 0)) (ap (λ (t : List ℕ). get_or t i 0) was ∙ cover-at i (omega (arith, updated)) l) ∙ sym (mark_of i (omega (arith, updated))))
      (λ i h. mix.rest i (inr (omega (arith, updated))) ∙ ap (λ (t : List ℕ). get_or t i 0) was ∙ get_or-sets_other (cover_marks new groups) marks 0 i (inr (omega (arith, made, updated)))) in
      let said : r ≡ cond (fits 1 131072 marks (singly (update_marks old new groups given))) (Ok (length (update_marks old new groups given))) (Err Room) =
      ap (λ (o : Outcome Counted). o.answer) e ∙ rw (fits-text 131072 (cover_marks new groups) marks few, fits-text 131072 (update_marks old new groups given) marks few', made, updated) in
      rw (said, z, lw, is ∙ stored-text 131072 (update_marks old new groups given) marks few')
    where
      second : outcome r (w₁ ∷ marks₁ ∷ []) ≡ handed work marks (cover_marks new groups) → marks₁ ≡ fitted 1 131072 marks (singly (cover_marks new groups))
      second q = ap (λ (o : Outcome Counted). head-two o.lent) q
        where
          head-two : List (List ℕ) → List ℕ
          head-two [] = []
          head-two (a ∷ []) = []
          head-two (a ∷ b ∷ l) = b

      cover-at : (i : ℕ) → i < groups → i < length marks → get_or (sets marks 0 (cover_marks new groups)) i 0 ≡ get_or (cover_marks new groups) i 0
      cover-at i h l = let y : 0 + i ≡ i = omega arith in subst (λ (x : ℕ). get_or (sets marks 0 (cover_marks new groups)) x 0 ≡ get_or (cover_marks new groups) i 0) y (get_or-sets (cover_marks new groups) marks 0 i (omega (arith, made)) (omega arith))
