-- Marks handed out, with room for all and without. Assumes nothing.
use Rattle.std.specs.Prelude.{ℕ, ◌≤◌, ◌<◌, ◌≡◌, Bool, true, false, cond, List, [], ◌∷◌, length, replicate, leb}
use Rattle.std.proofs.Common.{◌∙◌, le-leb, Ok, Err}
use Rattle.std.proofs.lemmas.List.Edits.{sets}
use Rattle.std.proofs.lemmas.Bool.{lt-leb}
use Rattle.records.specs.declared.refusal.Refusal.TheVariants.{Room}
use Rattle.records.specs.Outcome.{outcome}
use Rattle.records.specs.RoomLaws.{stored-text, fits-text}
use Rattle.cover_spec.specs.Marks.{handed}

module _ (work old marks w k : List ℕ) (few : length marks ≤ 131072) (cleared : w ≡ replicate (length work) 0) (stored : k ≡ sets old 0 marks) where
  as_handed : (b : Bool) → leb (length marks) (length old) ≡ b → outcome (cond b (Ok (length marks)) (Err Room)) (w ∷ k ∷ []) ≡ handed work old marks
  as_handed b e = rw (cleared, stored ∙ stored-text 131072 marks old few, fits-text 131072 marks old few, e)

  pub handed-all : length marks ≤ length old → outcome (Ok (length marks)) (w ∷ k ∷ []) ≡ handed work old marks
  handed-all h = as_handed true (le-leb (length marks) (length old) h)

  pub handed_short : length old < length marks → outcome (Err Room) (w ∷ k ∷ []) ≡ handed work old marks
  handed_short h = as_handed false (lt-leb (length marks) (length old) h)
