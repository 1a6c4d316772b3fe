-- What a protein's letters, a digest's record and the masses must be to make a peptide: 1, 8, 2, 9.
use Rattle.std.specs.Prelude.{ℕ, ◌+◌, Bool, cond, not, ◌&&◌, ◌||◌, List, length, get_or, leb, ltb, eqb, Float, Err}
use Rattle.peptide_mass.specs.Masses.{no_mass}
use Rattle.records.specs.declared.refusal.Refusal.TheVariants.{Size, Letter, Length, Field}
use Rattle.records.specs.Search.{seek}
use Rattle.letters.specs.Letters.{is_letter}
use Rattle.enzyme_keep.specs.Digests.{start_of, end_of, good_record}
use Rattle.records.specs.Answers.{Passed, Tested}

-- 1: more letters than a protein has; of 20 bytes, a range of more than 64
abbrev pub too_long : List ℕ → List ℕ → Bool
too_long s r = ltb 65536 (length s) || (eqb (length r) 20 && ltb (start_of r + 64) (end_of r))

-- 8: the record is not 20 bytes, or the masses are not 26
abbrev pub not_whole : List ℕ → List Float → Bool
not_whole r masses = not (eqb (length r) 20 && eqb (length masses) 26)

-- a byte that is no letter; inside the range also a letter of mass zero
unfoldable pub unfit : List Float → Bool → ℕ → Bool
unfolding is_letter no_mass
unfit masses inside b = cond inside (no_mass masses b) (not (is_letter b))

-- the first place of one in all the letters, or their number
unfoldable pub first_unfit : List Float → ℕ → ℕ → List ℕ → ℕ
unfolding seek unfit
first_unfit masses start end s = seek (λ (i : ℕ). unfit masses (leb start i && ltb i end) (get_or s i 0)) 0 (length s)

-- 1, 8, 2; 9: a field out of range, or an end past the letters
unfoldable pub tested_digest : List ℕ → List ℕ → List Float → Tested
unfolding first_unfit
tested_digest s r masses =
    let bad = first_unfit masses (start_of r) (end_of r) s in
    cond (too_long s r) (Err Size)
    (cond (not_whole r masses) (Err Length)
    (cond (ltb bad (length s)) (Err (Letter bad))
    (cond (good_record r && leb (end_of r) (length s)) Passed (Err (Field 0)))))
