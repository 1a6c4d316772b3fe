-- Document 01, "Examples": P1, P3, P4, P5 and further cases, proved of the definitions. A case is the answer's numbers and then
-- each lent slice.
use Rattle.std.specs.Prelude.{ℕ, refl, Bool, true, false, take, replicate, Ok, Err}
use mathlib.Core.List.{List, [], ◌∷◌, ◌++◌, flatten}
use Rattle.records.specs.Refusals.{number_of, place_of}
use Rattle.records.specs.Le.{le, number_at}
use Rattle.records.specs.Outcome.{Outcome}
use Rattle.records.specs.Cases.{Case, Hold, answered, refused_as, told}
use Rattle.records.specs.Room.{written}
use Rattle.records.specs.Search.{seek}
use Rattle.letters.specs.declared.letter_set.LetterSet.{LetterSet}
use Rattle.letters.specs.Letters.{capital, is_letter, bit_set, has, proper, subset, first_bad}
use Rattle.enzyme_cuts.specs.declared.kinds.Side.{Side}
use Rattle.enzyme_cuts.specs.declared.kinds.Side.TheVariants.{C, N}
use Rattle.enzyme_cuts.specs.declared.kinds.Kind.{Kind}
use Rattle.enzyme_cuts.specs.declared.kinds.Kind.TheVariants.{None, End, Set}
use Rattle.enzyme_cuts.specs.declared.kinds.Enzyme.{Enzyme}
use Rattle.enzyme_keep.specs.Digests.{position_of, record_of}
use Rattle.enzyme_spec.specs.declared.settings.Settings.{Settings}
use Rattle.enzyme_spec.specs.Digestion.{digest_outcome}
use Rattle.enzyme_spec.specs.Reversal.{reverse_outcome, reverse_record_outcome, letters_outcome}
use Rattle.records.specs.Answers.{Passed, Tested}

set : ℕ → LetterSet
set mask = record { mask = mask }

enzyme : Kind → LetterSet → Side → Bool → Enzyme
enzyme kind skip side semi = record { kind = kind; skip = skip; side = side; semi = semi }

settings : ℕ → ℕ → ℕ → Settings
settings missed minimum maximum = record { missed = missed; minimum = minimum; maximum = maximum }

-- the eight numbers of a digest
row : ℕ → ℕ → ℕ → ℕ → ℕ → ℕ → ℕ → ℕ → List ℕ
row a e missed semi position decoy protein times = le 4 a ++ (le 4 e ++ (missed ∷ semi ∷ position ∷ decoy ∷ (le 4 protein ++ le 4 times)))

-- protein 9, a buffer of so many bytes 170, of which `left` stay behind the rows
digesting : List ℕ → Enzyme → LetterSet → Settings → ℕ → List ℕ → List (List ℕ) → ℕ → Case
digesting letters e alphabet st bytes answer rows left = record {
  got = told (digest_outcome letters alphabet e st 9 (replicate bytes 170));
  want = answer ∷ (flatten rows ++ replicate left 170) ∷ [];
}

pub digest_cases : List Case
digest_cases =
    -- P1: MAKCRDK, set KR, skip P, C side, missed 1, lengths 2 to 50
    digesting (77 ∷ 65 ∷ 75 ∷ 67 ∷ 82 ∷ 68 ∷ 75 ∷ []) (enzyme (Set (set 132096)) (set 32768) C false) (set 67108863) (settings 1 2 50) 100 (answered 5) (row 0 3 0 0 0 0 9 1 ∷ row 3 5 0 0 3 0 9 1 ∷ row 5 7 0 0 1 0 9 1 ∷ row 0 5 1 0 0 0 9 1 ∷ row 3 7 1 0 1 0 9 1 ∷ []) 0
    -- P1 as makCRDk: small letters read as capitals
    ∷ digesting (109 ∷ 97 ∷ 107 ∷ 67 ∷ 82 ∷ 68 ∷ 107 ∷ []) (enzyme (Set (set 132096)) (set 32768) C false) (set 67108863) (settings 1 2 50) 100 (answered 5) (row 0 3 0 0 0 0 9 1 ∷ row 3 5 0 0 3 0 9 1 ∷ row 5 7 0 0 1 0 9 1 ∷ row 0 5 1 0 0 0 9 1 ∷ row 3 7 1 0 1 0 9 1 ∷ []) 0
    -- a masked repeat: AKak is kept once, and occurs twice
    ∷ digesting (65 ∷ 75 ∷ 97 ∷ 107 ∷ []) (enzyme (Set (set 1024)) (set 0) C false) (set 67108863) (settings 0 1 50) 40 (answered 1) (row 0 2 0 0 0 0 9 2 ∷ []) 20
    -- the skip set with small letters: akpA
    ∷ digesting (97 ∷ 107 ∷ 112 ∷ 65 ∷ []) (enzyme (Set (set 1024)) (set 32768) C false) (set 67108863) (settings 0 1 50) 40 (answered 1) (row 0 4 0 0 2 0 9 1 ∷ []) 20
    -- without an enzyme: aAC, lengths 1 to 2
    ∷ digesting (97 ∷ 65 ∷ 67 ∷ []) (enzyme None (set 0) C false) (set 67108863) (settings 0 1 2) 80 (answered 4) (row 0 1 0 0 0 0 9 2 ∷ row 2 3 0 0 1 0 9 1 ∷ row 0 2 0 0 0 0 9 1 ∷ row 1 3 0 0 1 0 9 1 ∷ []) 0
    -- P3: DADA, set D, N side, missed 1, from length 1
    ∷ digesting (68 ∷ 65 ∷ 68 ∷ 65 ∷ []) (enzyme (Set (set 8)) (set 0) N false) (set 67108863) (settings 1 1 50) 40 (answered 2) (row 0 2 0 0 0 0 9 2 ∷ row 0 4 1 0 2 0 9 1 ∷ []) 0
    -- P4: ACK, set KR, semi, missed 0, from length 1
    ∷ digesting (65 ∷ 67 ∷ 75 ∷ []) (enzyme (Set (set 132096)) (set 0) C true) (set 67108863) (settings 0 1 50) 100 (answered 5) (row 0 3 0 0 2 0 9 1 ∷ row 0 1 0 1 0 0 9 1 ∷ row 1 3 0 1 1 0 9 1 ∷ row 0 2 0 1 0 0 9 1 ∷ row 2 3 0 1 1 0 9 1 ∷ []) 0
    -- P5: AAC, none, lengths 1 to 2
    ∷ digesting (65 ∷ 65 ∷ 67 ∷ []) (enzyme None (set 0) C false) (set 67108863) (settings 0 1 2) 80 (answered 4) (row 0 1 0 0 0 0 9 2 ∷ row 2 3 0 0 1 0 9 1 ∷ row 0 2 0 0 0 0 9 1 ∷ row 1 3 0 0 1 0 9 1 ∷ []) 0
    -- no room: the first records that fit
    ∷ digesting (77 ∷ 65 ∷ 75 ∷ 67 ∷ 82 ∷ 68 ∷ 75 ∷ []) (enzyme (Set (set 132096)) (set 32768) C false) (set 67108863) (settings 1 2 50) 99 (refused_as 11 0) (row 0 3 0 0 0 0 9 1 ∷ row 3 5 0 0 3 0 9 1 ∷ row 5 7 0 0 1 0 9 1 ∷ row 0 5 1 0 0 0 9 1 ∷ []) 19
    -- AKAKAK, missed 1: the site three times, the window of two twice; the empty site at the end is no second range
    ∷ digesting (65 ∷ 75 ∷ 65 ∷ 75 ∷ 65 ∷ 75 ∷ []) (enzyme (Set (set 1024)) (set 0) C false) (set 67108863) (settings 1 1 50) 40 (answered 2) (row 0 2 0 0 0 0 9 3 ∷ row 0 4 1 0 0 0 9 2 ∷ []) 0
    -- a part counts as well: 0..2 of ACKAC is a part with the letters of the site 3..5, and 3..4 one with those of the part 0..1
    ∷ digesting (65 ∷ 67 ∷ 75 ∷ 65 ∷ 67 ∷ []) (enzyme (Set (set 1024)) (set 0) C true) (set 67108863) (settings 0 1 50) 120 (answered 6) (row 0 3 0 0 0 0 9 1 ∷ row 3 5 0 0 1 0 9 2 ∷ row 0 1 0 1 0 0 9 2 ∷ row 1 3 0 1 3 0 9 1 ∷ row 2 3 0 1 3 0 9 1 ∷ row 4 5 0 1 1 0 9 1 ∷ []) 0
    -- where there is no room, the records that stand have their whole numbers: ACA without an enzyme, AKAK with semi
    ∷ digesting (65 ∷ 67 ∷ 65 ∷ []) (enzyme None (set 0) C false) (set 67108863) (settings 0 1 1) 20 (refused_as 11 0) (row 0 1 0 0 0 0 9 2 ∷ []) 0
    ∷ digesting (65 ∷ 75 ∷ 65 ∷ 75 ∷ []) (enzyme (Set (set 1024)) (set 0) C true) (set 67108863) (settings 0 1 50) 20 (refused_as 11 0) (row 0 2 0 0 0 0 9 2 ∷ []) 0
    -- the skip set, on the C side
    ∷ digesting (65 ∷ 75 ∷ 80 ∷ 65 ∷ 75 ∷ 65 ∷ []) (enzyme (Set (set 132096)) (set 32768) C false) (set 67108863) (settings 0 1 50) 40 (answered 2) (row 0 5 0 0 0 0 9 1 ∷ row 5 6 0 0 1 0 9 1 ∷ []) 0
    -- the skip set, on the N side
    ∷ digesting (65 ∷ 68 ∷ 80 ∷ 68 ∷ []) (enzyme (Set (set 32776)) (set 32768) N false) (set 67108863) (settings 0 1 50) 80 (answered 3) (row 0 1 0 0 0 0 9 1 ∷ row 1 3 0 0 3 0 9 1 ∷ row 3 4 0 0 1 0 9 1 ∷ []) 20
    -- semi and missed together, N side
    ∷ digesting (65 ∷ 75 ∷ 67 ∷ 75 ∷ []) (enzyme (Set (set 1024)) (set 0) N true) (set 67108863) (settings 1 1 3) 200 (answered 8) (row 0 1 0 0 0 0 9 1 ∷ row 1 3 0 0 3 0 9 1 ∷ row 3 4 0 0 1 0 9 2 ∷ row 0 3 1 0 0 0 9 1 ∷ row 1 4 1 0 1 0 9 1 ∷ row 2 3 0 1 3 0 9 1 ∷ row 0 2 1 1 0 0 9 1 ∷ row 2 4 1 1 1 0 9 1 ∷ []) 40
    -- "end", whatever side, skip set, semi and missed say
    ∷ digesting (65 ∷ 75 ∷ 65 ∷ []) (enzyme End (set 1) N true) (set 67108863) (settings 2 1 50) 40 (answered 1) (row 0 3 0 0 2 0 9 1 ∷ []) 20
    -- an empty set means "none"
    ∷ digesting (65 ∷ 67 ∷ []) (enzyme (Set (set 0)) (set 0) N true) (set 67108863) (settings 2 0 2) 80 (answered 3) (row 0 1 0 0 0 0 9 1 ∷ row 1 2 0 0 1 0 9 1 ∷ row 0 2 0 0 2 0 9 1 ∷ []) 20
    -- the empty protein
    ∷ digesting [] (enzyme (Set (set 1024)) (set 0) C true) (set 67108863) (settings 2 1 5) 20 (answered 0) [] 20
    -- 2: A*A
    ∷ digesting (65 ∷ 42 ∷ 65 ∷ []) (enzyme (Set (set 1024)) (set 0) C false) (set 67108863) (settings 0 1 50) 20 (refused_as 2 1) [] 20
    -- 2: the bytes next to the letters: @ [ ` { and A and a with the highest bit set
    ∷ digesting (65 ∷ 64 ∷ []) (enzyme End (set 0) C false) (set 67108863) (settings 0 1 50) 20 (refused_as 2 1) [] 20
    ∷ digesting (90 ∷ 91 ∷ []) (enzyme End (set 0) C false) (set 67108863) (settings 0 1 50) 20 (refused_as 2 1) [] 20
    ∷ digesting (97 ∷ 96 ∷ []) (enzyme End (set 0) C false) (set 67108863) (settings 0 1 50) 20 (refused_as 2 1) [] 20
    ∷ digesting (122 ∷ 123 ∷ []) (enzyme End (set 0) C false) (set 67108863) (settings 0 1 50) 20 (refused_as 2 1) [] 20
    ∷ digesting (65 ∷ 193 ∷ []) (enzyme End (set 0) C false) (set 67108863) (settings 0 1 50) 20 (refused_as 2 1) [] 20
    ∷ digesting (97 ∷ 225 ∷ []) (enzyme End (set 0) C false) (set 67108863) (settings 0 1 50) 20 (refused_as 2 1) [] 20
    -- 3 before 2: the cleave set
    ∷ digesting (65 ∷ 42 ∷ 65 ∷ []) (enzyme (Set (set 1024)) (set 0) C false) (set 67107839) (settings 0 1 50) 20 (refused_as 3 0) [] 20
    -- 3: the skip set, any kind
    ∷ digesting (65 ∷ 42 ∷ 65 ∷ []) (enzyme End (set 32768) C false) (set 67076095) (settings 0 1 50) 20 (refused_as 3 0) [] 20
    -- 3: alphabet bits above 25
    ∷ digesting (65 ∷ 42 ∷ 65 ∷ []) (enzyme None (set 0) C false) (set 134217727) (settings 0 1 50) 20 (refused_as 3 0) [] 20
    -- 3: a skip set's bit above 25
    ∷ digesting (65 ∷ 42 ∷ 65 ∷ []) (enzyme None (set 67108864) C false) (set 67108863) (settings 0 1 50) 20 (refused_as 3 0) [] 20
    -- 1 before 3
    ∷ digesting (65 ∷ 42 ∷ 65 ∷ []) (enzyme None (set 0) C false) (set 134217727) (settings 17 1 50) 20 (refused_as 1 0) [] 20
    ∷ []

-- ---- reversal

passed : List ℕ
passed = 0 ∷ 0 ∷ []

told_tested : Outcome Tested → List (List ℕ)
told_tested o = go o.answer ∷ o.lent
  where
    go : Tested → List ℕ
    go (Ok _) = passed
    go (Err why) = refused_as (number_of why) (place_of why)

reversing : List ℕ → List ℕ → List ℕ → Case
reversing letters answer after = record { got = told_tested (reverse_outcome letters); want = answer ∷ after ∷ [] }

marking : List ℕ → List ℕ → List ℕ → Case
marking bytes answer after = record { got = told_tested (reverse_record_outcome bytes); want = answer ∷ after ∷ [] }

spelling : List ℕ → List ℕ → ℕ → List ℕ → List ℕ → Case
spelling letters bytes room answer after = record { got = told (letters_outcome letters bytes (replicate room 170)); want = answer ∷ after ∷ [] }

pub reversal_cases : List Case
reversal_cases =
    -- the inner letters of ACDEK
    reversing (65 ∷ 67 ∷ 68 ∷ 69 ∷ 75 ∷ []) passed (65 ∷ 69 ∷ 68 ∷ 67 ∷ 75 ∷ [])
    -- two letters, one, none
    ∷ reversing (65 ∷ 75 ∷ []) passed (65 ∷ 75 ∷ [])
    ∷ reversing (75 ∷ []) passed (75 ∷ [])
    ∷ reversing [] (refused_as 1 0) []
    -- small letters: acDeK; what is written is capitals
    ∷ reversing (97 ∷ 99 ∷ 68 ∷ 101 ∷ 75 ∷ []) passed (65 ∷ 69 ∷ 68 ∷ 67 ∷ 75 ∷ [])
    -- 2: aA*K, and a{, which is no letter either; small letters stay small
    ∷ reversing (97 ∷ 65 ∷ 42 ∷ 75 ∷ []) (refused_as 2 2) (97 ∷ 65 ∷ 42 ∷ 75 ∷ [])
    ∷ reversing (97 ∷ 123 ∷ []) (refused_as 2 1) (97 ∷ 123 ∷ [])
    -- a record becomes a decoy, a decoy stays; any number passes, and stays
    ∷ marking (row 3 5 0 0 3 0 9 4294967295) passed (row 3 5 0 0 3 1 9 4294967295)
    ∷ marking (row 3 5 0 0 3 1 9 2) passed (row 3 5 0 0 3 1 9 2)
    -- 9: an empty range; 8 before 9: a record without its last bytes, one of 16 bytes
    ∷ marking (row 5 5 0 0 3 0 9 2) (refused_as 9 0) (row 5 5 0 0 3 0 9 2)
    ∷ marking (le 4 5 ++ le 4 5) (refused_as 8 0) (le 4 5 ++ le 4 5)
    ∷ marking (take 16 (row 3 5 0 0 3 0 9 1)) (refused_as 8 0) (take 16 (row 3 5 0 0 3 0 9 1))
    -- the letters of 1..5 of MACDEK, and of its decoy
    ∷ spelling (77 ∷ 65 ∷ 67 ∷ 68 ∷ 69 ∷ 75 ∷ []) (row 1 5 0 0 3 0 9 2) 6 (answered 4) (65 ∷ 67 ∷ 68 ∷ 69 ∷ 170 ∷ 170 ∷ [])
    ∷ spelling (77 ∷ 65 ∷ 67 ∷ 68 ∷ 69 ∷ 75 ∷ []) (row 1 5 0 0 3 1 9 2) 4 (answered 4) (65 ∷ 68 ∷ 67 ∷ 69 ∷ [])
    -- the same of macdek: capitals
    ∷ spelling (109 ∷ 97 ∷ 99 ∷ 100 ∷ 101 ∷ 107 ∷ []) (row 1 5 0 0 3 1 9 2) 4 (answered 4) (65 ∷ 68 ∷ 67 ∷ 69 ∷ [])
    -- no room: the first letters that fit
    ∷ spelling (77 ∷ 65 ∷ 67 ∷ 68 ∷ 69 ∷ 75 ∷ []) (row 1 5 0 0 3 1 9 2) 3 (refused_as 11 0) (65 ∷ 68 ∷ 67 ∷ [])
    -- 9: the end is not within the protein
    ∷ spelling (77 ∷ 65 ∷ 67 ∷ []) (row 1 4 0 0 3 1 9 2) 3 (refused_as 9 0) (170 ∷ 170 ∷ 170 ∷ [])
    ∷ []

pub table : List Case
table = digest_cases ++ reversal_cases

pub cases : Hold table
unfolding capital is_letter bit_set has proper subset first_bad seek number_at position_of record_of flatten written passed told_tested set enzyme settings row digesting digest_cases reversing marking spelling reversal_cases table
cases = refl
