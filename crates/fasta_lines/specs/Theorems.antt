-- Bytes that belong to no line end are the lines put together. Assumes nothing.
use Rattle.std.specs.Prelude.{ℕ, ◌≡◌, refl, Bool, true, false, cond, ◌&&◌, ◌||◌, get_or, eqb}
use Rattle.std.proofs.Common.{sym, ap, ◌∙◌}
use mathlib.Core.List.{List, [], ◌∷◌, flatten}
use Rattle.fasta_lines.specs.Lines.{together}

-- a byte in front of the first of some lines
abbrev pub onto : ℕ → List (List ℕ) → List (List ℕ)
onto b [] = (b ∷ []) ∷ []
onto b (t ∷ ts) = (b ∷ t) ∷ ts

-- the lines, without their ends, empty ones too, and the last one where no end follows it
abbrev pub lines_of : List ℕ → List (List ℕ)
lines_of [] = [] ∷ []
lines_of (b ∷ s) = cond (eqb b 10) ([] ∷ lines_of s) (cond (eqb b 13 && eqb (get_or s 0 0) 10) (lines_of s) (onto b (lines_of s)))

flatten_onto : (b : ℕ) (ts : List (List ℕ)) → flatten (onto b ts) ≡ b ∷ flatten ts
unfolding flatten
flatten_onto b [] = refl
flatten_onto b (t ∷ ts) = refl

pub together_lines : (s : List ℕ) → together s ≡ flatten (lines_of s)
unfolding flatten
together_lines [] = refl
together_lines (b ∷ s) = go (eqb b 10) (eqb b 13 && eqb (get_or s 0 0) 10) (together_lines s)
  where
    go : (t u : Bool) → together s ≡ flatten (lines_of s) → cond (t || u) (together s) (b ∷ together s) ≡ flatten (cond t ([] ∷ lines_of s) (cond u (lines_of s) (onto b (lines_of s))))
    go true u h = h
    go false true h = h
    go false false h = ap (λ (z : List ℕ). b ∷ z) h ∙ sym (flatten_onto b (lines_of s))
