-- A number and a place say which refusal it is. Assumes nothing.
use Rattle.std.specs.Prelude.{ℕ, ◌≡◌, refl, cond, eqb}
use Rattle.std.proofs.Common.{sym, ap₂, ◌∙◌}
use Rattle.records.specs.declared.refusal.Refusal.{Refusal}
use Rattle.records.specs.declared.refusal.Refusal.TheVariants.{Size, Letter, Alphabet, EmptyText, Outside, LongText, TableFull, Length, Field, Work, Room, Name, Repeat, Stray}
use Rattle.records.specs.Refusals.{number_of, place_of}

-- the refusal that has a number and a place
abbrev pub refusal_of : ℕ → ℕ → Refusal
refusal_of n at =
    cond (eqb n 1) Size
    (cond (eqb n 2) (Letter at)
    (cond (eqb n 3) Alphabet
    (cond (eqb n 4) EmptyText
    (cond (eqb n 5) (Outside at)
    (cond (eqb n 6) LongText
    (cond (eqb n 7) TableFull
    (cond (eqb n 8) Length
    (cond (eqb n 9) (Field at)
    (cond (eqb n 10) Work
    (cond (eqb n 11) Room
    (cond (eqb n 12) (Name at)
    (cond (eqb n 13) (Repeat at)
    (Stray at)))))))))))))

-- so a number and a place say which refusal it is
pub refusal_known : (r : Refusal) → refusal_of (number_of r) (place_of r) ≡ r
refusal_known Size = refl
refusal_known (Letter at) = refl
refusal_known Alphabet = refl
refusal_known EmptyText = refl
refusal_known (Outside at) = refl
refusal_known LongText = refl
refusal_known TableFull = refl
refusal_known Length = refl
refusal_known (Field at) = refl
refusal_known Work = refl
refusal_known Room = refl
refusal_known (Name at) = refl
refusal_known (Repeat at) = refl
refusal_known (Stray at) = refl

-- two refusals with one number and one place are the same
pub refusal_only : (r q : Refusal) → number_of r ≡ number_of q → place_of r ≡ place_of q → r ≡ q
refusal_only r q e f = sym (refusal_known r) ∙ ap₂ refusal_of e f ∙ refusal_known q
