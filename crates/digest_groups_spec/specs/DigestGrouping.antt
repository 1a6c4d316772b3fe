-- What a call of `group_digests` answers, and what its work memory and its two lists hold then.
use Rattle.std.specs.Prelude.{ℕ, ◌+◌, ◌-◌, ◌*◌, ◌/◌, ◌%◌, ◌≡◌, Bool, cond, not, ◌&&◌, ◌||◌, List, [], ◌∷◌, length, get_or, ltb, leb, eqb, Err}
use Rattle.records.specs.declared.refusal.Refusal.TheVariants.{Size, Length, Work}
use Rattle.records.specs.Outcome.{Outcome, outcome, unless_refused, only}
use Rattle.records.specs.Tested.{and_then, field_tested}
use Rattle.records.specs.Search.{seek}
use Rattle.catalogue_spec.specs.Names.{name_count, too_many_names, whole_names, names_tested}
use Rattle.catalogue_spec.specs.Book.{too_many_letters, bounds_of, bounds_tested, letters_tested}
use Rattle.enzyme_keep.specs.Digests.{good_record, end_of, protein_in}
use Rattle.digest_groups_spec.specs.DigestGroups.{digest_at, digests_in, gathered, digests_grouped}
use Rattle.records.specs.Answers.{Counted, Tested}

-- 1: more than 65,536 names, 2^28 letters or 1,048,576 digests, counted in whole records
abbrev pub too_large : List ℕ → List ℕ → List ℕ → Bool
too_large names letters ds = too_many_names names || too_many_letters letters || ltb 1048576 (length ds / 20)

-- 8: names or digests that are not whole records, or boundaries that are not one more than the names; document 02, [7]: "8 now reads
-- on 20 bytes"
abbrev pub uneven : List ℕ → List ℕ → List ℕ → Bool
uneven names bounds ds = not (whole_names names && bounds_of bounds (name_count names) && eqb (length ds % 20) 0)

-- 10: fewer than 4 numbers for each protein and 6 for each digest
abbrev pub needed : List ℕ → List ℕ → ℕ
needed names ds = 4 * name_count names + 6 * (length ds / 20)

-- "start below end, end within a protein of the book, missed to 16, position to 3, flags 0 or 1"; how often the letters occur may be
-- any number
abbrev pub good_digest : List ℕ → ℕ → List ℕ → Bool
good_digest bounds proteins d = good_record d && ltb (protein_in d) proteins && leb (end_of d) (get_or bounds (protein_in d + 1) 0 - get_or bounds (protein_in d) 0)

abbrev pub bad_digest : List ℕ → ℕ → List ℕ → ℕ → Bool
bad_digest bounds proteins ds i = not (good_digest bounds proteins (digest_at ds i))

-- the lowest bad digest, or their number
unfoldable pub first_bad_digest : List ℕ → ℕ → List ℕ → ℕ
unfolding seek
first_bad_digest bounds proteins ds = seek (bad_digest bounds proteins ds) 0 (length ds / 20)

-- 9 there
abbrev pub digests_tested : List ℕ → ℕ → List ℕ → Tested
digests_tested bounds proteins ds = field_tested (first_bad_digest bounds proteins ds) (length ds / 20)

-- the contents, list by list: catalogue (12, 13), boundaries (9), letters (2), digests (9)
abbrev pub contents : List ℕ → List ℕ → List ℕ → List ℕ → Tested
contents names bounds letters ds =
    and_then (names_tested names) (and_then (bounds_tested bounds (length letters)) (and_then (letters_tested letters) (digests_tested bounds (name_count names) ds)))

abbrev pub tested : List ℕ → List ℕ → List ℕ → List ℕ → ℕ → Tested
tested names bounds letters ds words =
    cond (too_large names letters ds) (Err Size)
    (cond (uneven names bounds ds) (Err Length)
    (cond (ltb words (needed names ds)) (Err Work) (contents names bounds letters ds)))

-- then 11, in `digests_grouped`
abbrev pub digest_groups_outcome : List ℕ → List ℕ → List ℕ → List ℕ → List ℕ → List ℕ → List ℕ → Outcome Counted
digest_groups_outcome names bounds letters ds work groups proteins =
    unless_refused (tested names bounds letters ds (length work)) Err (work ∷ groups ∷ proteins ∷ [])
    (digests_grouped names (gathered bounds letters (digests_in ds)) work groups proteins)

-- no second answer and no second contents meet the contract of `group_digests`
pub digest-groups_only : (names bounds letters ds work groups proteins : List ℕ) (r q : Counted) (k l : List (List ℕ))
    → outcome r k ≡ digest_groups_outcome names bounds letters ds work groups proteins → outcome q l ≡ digest_groups_outcome names bounds letters ds work groups proteins → (r ≡ q) × (k ≡ l)
digest-groups_only names bounds letters ds work groups proteins r q k l = only r q k l (digest_groups_outcome names bounds letters ds work groups proteins)
