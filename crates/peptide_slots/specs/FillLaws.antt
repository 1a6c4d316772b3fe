-- What filling does to a form: a filled slot keeps its id, the length stays. Assumes nothing.
use Rattle.std.specs.Prelude.{ℕ, ◌+◌, ◌≤◌, ◌<◌, ◌≡◌, refl, List, [], ◌∷◌, ◌++◌, ◌⊎◌, length, get_or, drop, set, replicate}
use Rattle.std.proofs.Common.{sym, ap, ◌∙◌, subst, append-nil, inl, inr, arith, add-one, length-set, drop_of_length-le, drop-cons, get_or-set_same, get_or-set_other, ne_eqb}
use Rattle.std.proofs.lemmas.List.Edits.{sets, sets-eq}
use Rattle.std.proofs.Math.Seq.{set_out}
use Rattle.lists.specs.Tests.{same?, below?}
use Rattle.peptide_slots.specs.Hits.{fill, fill_at}
use Rattle.peptide_slots.specs.Sites.{slot_of}
use Rattle.peptide_slots.specs.Filling.{fill_site, apply}

pub length-apply : (rules form sites : List ℕ) → length (apply rules form sites) ≡ length form
unfolding apply
length-apply rules form [] = refl
length-apply rules form (s ∷ ss) = length-apply rules (fill_site rules form s) ss ∙ length-set form (slot_of s) _

-- a filled slot is never overwritten
pub fill-at_keeps : (form : List ℕ) (slot id k : ℕ) → (get_or form k 0 ≡ 0 → ⊥) → get_or (fill_at form slot id) k 0 ≡ get_or form k 0
fill-at_keeps form slot id k h = go (same? k slot)
  where
    inside : (k < length form) ⊎ (length form ≤ k) → get_or (fill_at form k id) k 0 ≡ get_or form k 0
    inside (inl l) = get_or-set_same form k (fill id (get_or form k 0)) 0 l ∙ rw (ne_eqb (get_or form k 0) 0 h)
    inside (inr l) = ap (λ (z : List ℕ). get_or z k 0) (set_out form k (fill id (get_or form k 0)) l)

    go : (k ≡ slot) ⊎ (k ≡ slot → ⊥) → get_or (fill_at form slot id) k 0 ≡ get_or form k 0
    go (inl e) = subst (λ (z : ℕ). get_or (fill_at form z id) k 0 ≡ get_or form k 0) e (inside (below? k (length form)))
    go (inr e) = get_or-set_other form slot k (fill id (get_or form slot 0)) 0 e

-- ---- loops: what is left gives the whole

pub apply-on : (rules form sites : List ℕ) (i : ℕ) → i < length sites → apply rules (fill_site rules form (get_or sites i 0)) (drop (i + 1) sites) ≡ apply rules form (drop i sites)
unfolding apply
apply-on rules form sites i h = sym (ap (apply rules form) (drop-cons sites i 0 h ∙ ap (λ (z : ℕ). get_or sites i 0 ∷ drop z sites) (sym (add-one i))))

pub apply_end : (rules form sites : List ℕ) (i : ℕ) → length sites ≤ i → apply rules form (drop i sites) ≡ form
unfolding apply
apply_end rules form sites i h = ap (apply rules form) (drop_of_length-le sites h)

-- ---- the ids that a peptide has, stored behind its terminal ids

pub bare_is : (a b : ℕ) (ids out : List ℕ) → length ids ≡ 64 → out ≡ sets (set (set (replicate 66 0) 0 a) 1 b) 2 ids → out ≡ a ∷ b ∷ ids
bare_is a b ids out e w =
    let old : List ℕ = set (set (replicate {A = ℕ} 66 0) 0 a) 1 b in
    w
    ∙ sets-eq ids old 2 (omega arith)
    ∙ ap (λ (z : ℕ). a ∷ b ∷ (ids ++ drop (2 + z) old)) e
    ∙ ap (λ (z : List ℕ). a ∷ b ∷ z) (append-nil ids)
