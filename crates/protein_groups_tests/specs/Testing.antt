-- What the tests of a grouping answer.
use Rattle.std.specs.Prelude.{ℕ, ◌+◌, ◌*◌, ◌/◌, ◌%◌, Bool, cond, not, ◌&&◌, ◌||◌, List, length, get_or, leb, ltb, eqb, Err}
use Rattle.records.specs.declared.refusal.Refusal.TheVariants.{Size, Length, Work}
use Rattle.records.specs.Search.{seek}
use Rattle.records.specs.Tested.{and_then, field_tested}
use Rattle.protein_groups_spec.specs.ProteinGroups.{Pair, pair_at}
use Rattle.records.specs.Answers.{Tested}

-- 1: more than 1,048,576 pairs, counted in whole records, 262,144 peptides or 65,536 proteins
abbrev pub too_large : List ℕ → ℕ → ℕ → Bool
too_large pairs peptides proteins = ltb 1048576 (length pairs / 8) || ltb 262144 peptides || ltb 65536 proteins

-- 8: pairs that are not whole records, or not a decoy flag for each peptide
abbrev pub uneven : List ℕ → List ℕ → ℕ → Bool
uneven pairs flags peptides = not (eqb (length pairs % 8) 0 && eqb (length flags) peptides)

-- 10: "4 x left + 4 x right + 6 x pairs", left is twice the proteins, right the peptides
abbrev pub needed : List ℕ → ℕ → ℕ → ℕ
needed pairs peptides proteins = 8 * proteins + 4 * peptides + 6 * (length pairs / 8)

-- a pair whose peptide or protein is not below its count; the first such, or how many pairs there are
abbrev pub bad_pair : ℕ → ℕ → Pair → Bool
bad_pair peptides proteins q = leb peptides q.peptide || leb proteins q.protein

unfoldable pub first_bad_pair : List ℕ → ℕ → ℕ → ℕ
first_bad_pair pairs peptides proteins = seek (λ (i : ℕ). bad_pair peptides proteins (pair_at pairs i)) 0 (length pairs / 8)

-- a flag that is neither 0 nor 1; the first such, or how many flags there are
abbrev pub bad_flag : ℕ → Bool
bad_flag flag = ltb 1 flag

unfoldable pub first_bad_flag : List ℕ → ℕ
first_bad_flag flags = seek (λ (i : ℕ). bad_flag (get_or flags i 0)) 0 (length flags)

-- 9 at the first bad pair, at the first bad flag
abbrev pub pairs_tested : List ℕ → ℕ → ℕ → Tested
pairs_tested pairs peptides proteins = field_tested (first_bad_pair pairs peptides proteins) (length pairs / 8)

abbrev pub flags_tested : List ℕ → Tested
flags_tested flags = field_tested (first_bad_flag flags) (length flags)

abbrev pub tested : List ℕ → List ℕ → ℕ → ℕ → ℕ → Tested
tested pairs flags peptides proteins words =
    cond (too_large pairs peptides proteins) (Err Size)
    (cond (uneven pairs flags peptides) (Err Length)
    (cond (ltb words (needed pairs peptides proteins)) (Err Work)
    (and_then (pairs_tested pairs peptides proteins) (flags_tested flags))))
