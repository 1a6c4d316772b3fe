-- The tables as they stand before anything is joined. Assumes nothing.
use Rattle.std.specs.Prelude.{ℕ, ◌+◌, ◌*◌, ◌<◌, ◌≡◌, List, length, get_or, replicate}
use Rattle.std.proofs.Common.{arith, add-zero, sym, ap, ◌∙◌, inl, inr}
use Rattle.std.proofs.lemmas.List.{length-replicate}
use Rattle.cover_joining.specs.Joining.{nodes}
use Rattle.cover_differing.specs.declared.links.Links.{Links}
use Rattle.cover_differing.specs.Walking.{links_old, links_new, GroupsLinked}
use Rattle.records.specs.Le.{number_at}
use Rattle.lists.specs.FrameLaws.{Out, Framed}
use Rattle.cover_edges.specs.Chains.{Chains}
use Rattle.cover_edges.specs.ChainLaws.{chains_same}
use Rattle.cover_edges.specs.RangeLaws.{InRange}
use Rattle.cover_edges.specs.TableLaws.{zero-at}
use Rattle.cover_touched.specs.Touching.{UpdateSized}

pub cleared_at : (w w₁ : List ℕ) (i : ℕ) → w₁ ≡ replicate (length w) 0 → get_or w₁ i 0 ≡ 0
cleared_at w w₁ i e = zero-at w₁ i (e ∙ ap (λ (n : ℕ). replicate n 0) (sym (ap length e ∙ length-replicate {A = ℕ} (length w) 0)))

pub field_inside : (bs : List ℕ) (n groups metas : ℕ) → InRange bs n groups metas → (i : ℕ) → i < n → number_at 4 bs (8 * i + 0) < groups
field_inside bs n groups metas h i l = rw add-zero (h i l).0

module _ {old new : List ℕ} {on nn groups metas : ℕ} (w w₁ : List ℕ) (s : UpdateSized old on new nn groups metas (length w)) (clear : w₁ ≡ replicate (length w) 0) where
  abbrev o : Links
  o = links_old groups metas on

  abbrev v : Links
  v = links_new groups metas on nn

  module _ (w₂ : List ℕ) (rest₂ : (i : ℕ) → Out i o.heads (o.heads + groups) → Out i o.nexts (o.nexts + on) → get_or w₂ i 0 ≡ get_or w₁ i 0) where
    -- the heads of the new records stand at zero
    pub new_heads : (x : ℕ) → x < groups → get_or w₂ (v.heads + x) 0 ≡ 0
    new_heads x l = rest₂ (v.heads + x) (inr (omega arith)) (inl (omega arith)) ∙ cleared_at w w₁ (v.heads + x) clear

    pub set-up_linked : (w₃ w₄ : List ℕ) → length w₄ ≡ length w → Chains w₂ old 0 on groups o.heads o.nexts → Chains w₃ new 0 nn groups v.heads v.nexts
        → ((i : ℕ) → Out i v.heads (v.heads + groups) → Out i v.nexts (v.nexts + nn) → get_or w₃ i 0 ≡ get_or w₂ i 0) → Framed metas (metas + nodes groups metas) w₃ w₄ → GroupsLinked old on new nn groups metas w₄
    set-up_linked w₃ w₄ long c₂ c₃ rest₃ rest₄ = record {
      groups-max = s.groups-max;
      metas-max = s.metas-max;
      by_old = record {
        few = s.old_few;
        inside = s.old_inside;
        above = omega arith;
        order = omega arith;
        room = omega (arith, s.room);
        chains = chains_same w₂ w₄ old 0 on groups o.heads o.nexts
            (λ x l. rest₄ (o.heads + x) (inr (omega arith)) ∙ rest₃ (o.heads + x) (inl (omega arith)) (inl (omega arith)))
            (λ i l. rest₄ (o.nexts + i) (inr (omega arith)) ∙ rest₃ (o.nexts + i) (inr (omega arith)) (inl (omega arith))) c₂;
      };
      by-new = record {
        few = s.new_few;
        inside = s.new_inside;
        above = omega arith;
        order = omega arith;
        room = omega (arith, s.room);
        chains = chains_same w₃ w₄ new 0 nn groups v.heads v.nexts (λ x l. rest₄ (v.heads + x) (inr (omega arith))) (λ i l. rest₄ (v.nexts + i) (inr (omega arith))) c₃;
      };
      clean = λ m l. rest₄ m (inl l) ∙ rest₃ m (inl (omega arith)) (inl (omega arith)) ∙ rest₂ m (inl (omega arith)) (inl (omega arith)) ∙ cleared_at w w₁ m clear;
    }
