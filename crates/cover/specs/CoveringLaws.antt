-- What is known where the tests passed. Assumes nothing.
use Rattle.std.specs.Prelude.{ℕ, ◌/◌, ◌≤◌, ◌<◌, ◌≡◌, refl, List, [], ◌∷◌, length, replicate, Ok, Err}
use Rattle.std.proofs.Common.{sym, ap, ◌∙◌, arith}
use Rattle.std.proofs.lemmas.List.Edits.{sets}
use Rattle.records.specs.declared.refusal.Refusal.TheVariants.{Room}
use Rattle.records.specs.Outcome.{outcome}
use Rattle.cover_spec.specs.Cover.{cover_list, listed}
use Rattle.cover_spec.specs.ListedLaws.{length-cover}
use Rattle.cover_spec.specs.Marks.{handed}
use Rattle.cover_spec.proofs.MarkLaws.{handed-all, handed_short}
use Rattle.cover_edges.specs.Edges.{edges_of}
use Rattle.cover_walk.specs.Tables.{RunFits}
use Rattle.cover_tests.specs.ReadyLaws.{CoverReady}
use Rattle.cover.specs.Covering.{cover_marks}

pub run_fits : {bs : List ℕ} {groups metas words : ℕ} → CoverReady bs groups metas words → (groups ≡ 0 → ⊥) → RunFits bs (length bs / 8) groups metas groups words
run_fits {bs} {groups} {metas} {words} r u = record {
  few = r.few;
  inside = r.inside;
  some = omega (arith, u);
  groups-max = r.groups-max;
  metas-max = r.metas-max;
  marks_len = refl;
  work_len = omega (arith, r.enough);
}

-- ---- the ways out, with the work memory w and the marks k

module _ (bs : List ℕ) (groups : ℕ) (work marks w k : List ℕ) (few : groups ≤ 131072) (cleared : w ≡ replicate (length work) 0) (stored : k ≡ sets marks 0 (cover_marks bs groups)) where
  made : length (cover_marks bs groups) ≡ groups
  made = length-cover groups (edges_of bs)

  pub made_all : groups ≤ length marks → outcome (Ok groups) (w ∷ k ∷ []) ≡ handed work marks (cover_marks bs groups)
  made_all h = ap (λ (n : ℕ). outcome (Ok n) (w ∷ k ∷ [])) (sym made) ∙ handed-all work marks (cover_marks bs groups) w k (omega (arith, made)) cleared stored (omega (arith, made))

  pub made_short : length marks < groups → outcome (Err Room) (w ∷ k ∷ []) ≡ handed work marks (cover_marks bs groups)
  made_short h = handed_short work marks (cover_marks bs groups) w k (omega (arith, made)) cleared stored (omega (arith, made))

-- no groups have no marks
pub made_none : (bs : List ℕ) (groups : ℕ) (work marks w : List ℕ) → w ≡ replicate (length work) 0 → groups ≡ 0 → outcome (Ok 0) (w ∷ marks ∷ []) ≡ handed work marks (cover_marks bs groups)
unfolding cover_list listed
made_none bs groups work marks w cleared z = rw z (made_all bs 0 work marks w marks (omega arith) cleared refl (omega arith))
