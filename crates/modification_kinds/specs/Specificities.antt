-- Document 01, the rule record: "kind u8 (0 residue, 1 `^`, 2 `$`, 3 `[`, 4 `]`), letter u8 (A to Z, or 0 for none, not with
-- kind 0)".
use Rattle.std.specs.Prelude.{ℕ, Bool, cond, not, ◌&&◌, ◌||◌, leb, eqb}
use Rattle.letters.specs.Letters.{is_capital}
use Rattle.modification_kinds.specs.declared.specificity.Specificity.{Specificity}
use Rattle.modification_kinds.specs.declared.specificity.Specificity.TheVariants.{Residue, PeptideN, PeptideC, ProteinN, ProteinC}

abbrev pub kind_of : Specificity → ℕ
kind_of (Residue b) = 0
kind_of (PeptideN b) = 1
kind_of (PeptideC b) = 2
kind_of (ProteinN b) = 3
kind_of (ProteinC b) = 4

abbrev pub letter_of : Specificity → ℕ
letter_of (Residue b) = b
letter_of (PeptideN b) = b
letter_of (PeptideC b) = b
letter_of (ProteinN b) = b
letter_of (ProteinC b) = b

-- the value that a kind's number and a letter stand for
abbrev pub specificity : ℕ → ℕ → Specificity
specificity kind b =
    cond (eqb kind 1) (PeptideN b)
    (cond (eqb kind 2) (PeptideC b)
    (cond (eqb kind 3) (ProteinN b)
    (cond (eqb kind 4) (ProteinC b)
    (Residue b))))

-- a kind and a letter that a rule may have: "A rule is always written with a capital" (document 02, [2])
abbrev pub sound : ℕ → ℕ → Bool
sound kind b = leb kind 4 && (is_capital b || (eqb b 0 && not (eqb kind 0)))
