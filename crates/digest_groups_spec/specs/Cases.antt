-- Document 01, "Grouping digests": worked cases, proved of the definitions. A case is the answer's numbers and then each lent
-- slice: work memory, groups, proteins.
use Rattle.std.specs.Prelude.{ℕ, ◌-◌, refl, length, take, replicate}
use mathlib.Core.List.{List, [], ◌∷◌, ◌++◌, flatten}
use Rattle.records.specs.Le.{le, number_at}
use Rattle.records.specs.Cases.{Case, Hold, answered, refused_as, told}
use Rattle.records.specs.Room.{written}
use Rattle.records.specs.Search.{seek}
use Rattle.letters.specs.Letters.{is_letter, first_bad}
use Rattle.catalogue_spec.specs.Names.{name_length, zeros_to, names_tested}
use Rattle.catalogue_spec.specs.Book.{first_bad_bound}
use Rattle.digest_groups_spec.specs.DigestGrouping.{first_bad_digest, digest_groups_outcome}

-- a name of these bytes
name : List ℕ → List ℕ
name t = t ++ replicate (64 - length t) 0

-- start, end, position, decoy, protein, how often its letters occur; missed and semi are 0
digest : ℕ → ℕ → ℕ → ℕ → ℕ → ℕ → List ℕ
digest a e position decoy protein times = le 4 a ++ (le 4 e ++ (0 ∷ 0 ∷ position ∷ decoy ∷ (le 4 protein ++ le 4 times)))

group : List ℕ → ℕ → ℕ → List ℕ
group reference first count = reference ++ (le 4 first ++ le 4 count)

-- names, boundaries and letters; so many words of work memory that hold 7, so many bytes 170 for groups and numbers 9 for proteins
grouping_in : List ℕ → List ℕ → List ℕ → List (List ℕ) → ℕ → ℕ → ℕ → List ℕ → List ℕ → List ℕ → List ℕ → Case
grouping_in names bounds letters ds words bytes places answer work groups proteins = record {
  got = told (digest_groups_outcome names bounds letters (flatten ds) (replicate words 7) (replicate bytes 170) (replicate places 9));
  want = answer ∷ work ∷ groups ∷ proteins ∷ [];
}

-- the proteins b, a and c: ACAC, AC and CA
grouping : List (List ℕ) → ℕ → ℕ → ℕ → List ℕ → List ℕ → List ℕ → List ℕ → Case
grouping = grouping_in (name (98 ∷ []) ++ (name (97 ∷ []) ++ name (99 ∷ []))) (0 ∷ 4 ∷ 6 ∷ 8 ∷ []) (65 ∷ 67 ∷ 65 ∷ 67 ∷ 65 ∷ 67 ∷ 67 ∷ 65 ∷ [])

-- the proteins b and B, of three letters each
masked : List ℕ → List (List ℕ) → List ℕ → List ℕ → List ℕ → List ℕ → Case
masked letters ds = grouping_in (name (98 ∷ []) ++ name (66 ∷ [])) (0 ∷ 3 ∷ 6 ∷ []) letters ds 20 56 2

pub table : List Case
table =
    -- no digests: no groups
    grouping [] 12 1 1 (answered 0) (replicate 12 0) (170 ∷ []) (9 ∷ [])
    -- AC of b and of a, also as the last group: sorted by name, the reference the first in input order, with its own number
    ∷ grouping (digest 0 2 3 0 0 2 ∷ digest 0 2 3 0 1 1 ∷ []) 24 56 2 (answered 1) (replicate 24 0) (group (digest 0 2 3 0 0 2) 0 2 ++ replicate 28 170) (1 ∷ 0 ∷ [])
    -- by position, then decoy, then letters; A before AC
    ∷ grouping (digest 0 2 3 0 0 2 ∷ digest 0 1 3 0 0 1 ∷ digest 0 2 3 1 1 0 ∷ digest 0 2 0 0 2 4294967295 ∷ []) 36 112 4 (answered 4) (replicate 36 0)
    (group (digest 0 2 0 0 2 4294967295) 0 1 ++ (group (digest 0 1 3 0 0 1) 1 1 ++ (group (digest 0 2 3 0 0 2) 2 1 ++ group (digest 0 2 3 1 1 0) 3 1))) (2 ∷ 0 ∷ 0 ∷ 1 ∷ [])
    -- a decoy's letters are reversed inside: AACC of ACAC, before ACC, that would stand before ACAC
    ∷ grouping (digest 1 4 3 1 0 2 ∷ digest 0 4 3 1 0 1 ∷ digest 0 2 3 1 1 0 ∷ []) 30 84 3 (answered 3) (replicate 30 0)
    (group (digest 0 4 3 1 0 1) 0 1 ++ (group (digest 0 2 3 1 1 0) 1 1 ++ group (digest 1 4 3 1 0 2) 2 1)) (0 ∷ 1 ∷ 0 ∷ [])
    -- repeats are kept; more room than needed stays
    ∷ grouping (digest 0 2 3 0 0 2 ∷ digest 2 4 3 0 0 1 ∷ []) 24 28 3 (answered 1) (replicate 24 0) (group (digest 0 2 3 0 0 2) 0 2) (0 ∷ 0 ∷ 9 ∷ [])
    -- ACK and aCk: one group, of which the reference is the first in input order; the names b and B are two, and B stands before b
    ∷ masked (65 ∷ 67 ∷ 75 ∷ 97 ∷ 67 ∷ 107 ∷ []) (digest 0 3 2 0 0 2 ∷ digest 0 3 2 0 1 1 ∷ []) (answered 1) (replicate 20 0) (group (digest 0 3 2 0 0 2) 0 2 ++ replicate 28 170) (1 ∷ 0 ∷ [])
    ∷ masked (65 ∷ 67 ∷ 75 ∷ 97 ∷ 67 ∷ 107 ∷ []) (digest 0 3 2 0 1 2 ∷ digest 0 3 2 0 0 1 ∷ []) (answered 1) (replicate 20 0) (group (digest 0 3 2 0 1 2) 0 2 ++ replicate 28 170) (1 ∷ 0 ∷ [])
    -- aCK before Cac, though a stands behind C as a byte; 2: the brace behind z
    ∷ masked (67 ∷ 97 ∷ 99 ∷ 97 ∷ 67 ∷ 75 ∷ []) (digest 0 3 2 0 0 2 ∷ digest 0 3 2 0 1 1 ∷ []) (answered 2) (replicate 20 0) (group (digest 0 3 2 0 1 1) 0 1 ++ group (digest 0 3 2 0 0 2) 1 1) (1 ∷ 0 ∷ [])
    ∷ masked (65 ∷ 67 ∷ 75 ∷ 122 ∷ 123 ∷ 107 ∷ []) (digest 0 3 2 0 0 2 ∷ digest 0 3 2 0 1 1 ∷ []) (refused_as 2 4) (replicate 20 7) (replicate 56 170) (9 ∷ 9 ∷ [])
    -- 11: no room for the second group, or for the second protein; both lists hold what fits
    ∷ grouping (digest 0 2 3 0 0 2 ∷ digest 0 2 0 0 2 1 ∷ []) 24 55 2 (refused_as 11 0) (replicate 24 0) (group (digest 0 2 0 0 2 1) 0 1 ++ replicate 27 170) (2 ∷ 0 ∷ [])
    ∷ grouping (digest 0 2 3 0 0 2 ∷ digest 0 2 0 0 2 1 ∷ []) 24 56 1 (refused_as 11 0) (replicate 24 0) (group (digest 0 2 0 0 2 1) 0 1 ++ group (digest 0 2 3 0 0 2) 1 1) (2 ∷ [])
    -- 8: the 16 bytes of an older record; a record and a byte
    ∷ grouping (take 16 (digest 0 2 3 0 0 2) ∷ []) 18 28 1 (refused_as 8 0) (replicate 18 7) (replicate 28 170) (9 ∷ [])
    ∷ grouping (digest 0 2 3 0 0 2 ∷ (0 ∷ []) ∷ []) 18 28 1 (refused_as 8 0) (replicate 18 7) (replicate 28 170) (9 ∷ [])
    -- 10 with a word too few; 9 at the second digest, which ends past its protein; both leave all as it was
    ∷ grouping (digest 0 2 3 0 0 2 ∷ []) 17 28 1 (refused_as 10 0) (replicate 17 7) (replicate 28 170) (9 ∷ [])
    ∷ grouping (digest 0 2 3 0 0 2 ∷ digest 0 3 3 0 1 1 ∷ []) 24 56 2 (refused_as 9 1) (replicate 24 7) (replicate 56 170) (9 ∷ 9 ∷ [])
    -- 9: no such protein; a start that is not below its end; position 4; decoy 2
    ∷ grouping (digest 0 2 3 0 3 2 ∷ []) 18 28 1 (refused_as 9 0) (replicate 18 7) (replicate 28 170) (9 ∷ [])
    ∷ grouping (digest 2 2 3 0 0 2 ∷ []) 18 28 1 (refused_as 9 0) (replicate 18 7) (replicate 28 170) (9 ∷ [])
    ∷ grouping (digest 0 2 4 0 0 2 ∷ []) 18 28 1 (refused_as 9 0) (replicate 18 7) (replicate 28 170) (9 ∷ [])
    ∷ grouping (digest 0 2 3 2 0 2 ∷ []) 18 28 1 (refused_as 9 0) (replicate 18 7) (replicate 28 170) (9 ∷ [])
    ∷ []

pub cases : Hold table
unfolding seek is_letter first_bad name_length zeros_to names_tested first_bad_bound first_bad_digest flatten number_at written name digest group grouping_in grouping masked table
cases = refl
