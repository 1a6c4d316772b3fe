-- The loop that mixes marks: the parts stay as they were told. Assumes nothing.
use Rattle.std.specs.Prelude.{ℕ, ◌+◌, ◌<◌, ◌≡◌, refl, Bool, cond, List, length, get_or, set, eqb}
use Rattle.std.proofs.Common.{arith, ap, ◌∙◌, inr, ⊎_elim, get_or-set_same, get_or-set_other}
use Rattle.cover_joining.specs.Joining.{Forest, LowestFound, nodes}
use Rattle.lists.specs.Tests.{same?}
use Rattle.lists.specs.FrameLaws.{Framed, framed_then, framed_within, framed_set}
use Rattle.cover_spec.specs.Cover.{Edge}
use Rattle.cover_spec.specs.Update.{touched}
use Rattle.cover_touched.specs.Touching.{PartsTell, Mixed}

pub record Mixing (groups metas : ℕ) (w₀ w given : List ℕ) (k : ℕ) (marks marks' : List ℕ) : Type 0 where
  pub forest : Forest w metas (nodes groups metas)
  pub told : (old new : List Edge) → PartsTell old new groups metas w₀ → PartsTell old new groups metas w × Mixed old new given k marks marks'
  pub rest : Framed 0 k marks marks'

pub mixing_start : (groups metas : ℕ) (w given marks : List ℕ) → Forest w metas (nodes groups metas) → Mixing groups metas w w given 0 marks marks
mixing_start groups metas w given marks f = record {
  forest = f;
  told = λ old new t. (t, record { here = λ g l. absurd (omega arith); rest = λ g l. refl });
  rest = λ g l. refl;
}

pub mixing_turn : (groups metas : ℕ) (w₀ w w' given marks marks' : List ℕ) (g low v : ℕ) → Mixing groups metas w₀ w given g marks marks' → g < groups → g < length marks' → LowestFound w w' metas (nodes groups metas) (1 + g) low
    → v ≡ cond (eqb low 0) (get_or marks' g 0) (get_or given g 0) → Mixing groups metas w₀ w' given (g + 1) marks (set marks' g v)
mixing_turn groups metas w₀ w w' given marks marks' g low v s lg lm f e = record {
  forest = f.forest;
  told = λ old new t₀.
      let (t, m) = s.told old new t₀ in
      let (r, q, z) = f.reps t.rep t.reps in (
        record { forest = f.forest; rep = t.rep; reps = r; says = t.says },
        record {
          here = λ x l. ⊎_elim (λ (y : x ≡ g). rw y (get_or-set_same marks' g v 0 lm ∙ e ∙ ap (λ (b : Bool). cond b (get_or marks' g 0) (get_or given g 0)) (ap (λ (n : ℕ). eqb n 0) q ∙ t.says g lg) ∙ ap (λ (n : ℕ). cond (touched old new g) n (get_or given g 0)) (s.rest g (inr (omega arith)))))
              (λ (u : x ≡ g → ⊥). get_or-set_other marks' g x v 0 u ∙ m.here x (omega (arith, u))) (same? x g);
          rest = after;
        },
      );
  rest = after;
}
  where
    after : Framed 0 (g + 1) marks (set marks' g v)
    after = framed_then 0 (g + 1) marks marks' (set marks' g v) (framed_within 0 0 g (g + 1) marks marks' (omega arith) (omega arith) s.rest) (framed_set 0 (g + 1) g v marks' (omega arith) (omega arith))
