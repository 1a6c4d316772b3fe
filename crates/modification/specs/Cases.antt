-- Worked cases of rule texts and of reading a record of a list of rules, proved of the definitions: refusal 0 is none, and then come
-- kind and letter, of a record also id and limit.
use Rattle.std.specs.Prelude.{ℕ, refl, replicate, Ok, Err}
use mathlib.Core.List.{List, [], ◌∷◌, ◌++◌, flatten}
use Rattle.records.specs.Cases.{Case, Hold, refused_as}
use Rattle.records.specs.CaseLaws.{joined}
use Rattle.records.specs.Search.{seek}
use Rattle.records.specs.Le.{number_at}
use Rattle.records.specs.Refusals.{number_of, place_of}
use Rattle.letters.specs.Letters.{is_capital, capital, is_letter, bit_set, has}
use Rattle.modification_kinds.specs.Specificities.{kind_of, letter_of}
use Rattle.modification_texts.specs.Texts.{Parsed, first_wide, parsed, text_of}
use Rattle.modification_rules.specs.Rules.{Read, good_rule, read_rule}

-- M with id 1, at most twice
on_m : List ℕ
on_m = 0 ∷ 77 ∷ 1 ∷ 0 ∷ 2 ∷ 0 ∷ 0 ∷ 0 ∷ []

-- a residue without a letter, which is no rule
bare : List ℕ
bare = 0 ∷ 0 ∷ 1 ∷ 0 ∷ 2 ∷ 0 ∷ 0 ∷ 0 ∷ []

said : Read → List ℕ
said (Ok q) = 0 ∷ 0 ∷ kind_of q.on ∷ letter_of q.on ∷ q.id ∷ q.limit ∷ []
said (Err why) = refused_as (number_of why) (place_of why)

reading : List ℕ → ℕ → List ℕ → Case
reading rules r want = record { got = said (read_rule rules r) ∷ []; want = want ∷ [] }

-- ---- texts

-- the kind and the letter, and the text that is written back
told : Parsed → List (List ℕ)
told (Ok s) = (0 ∷ 0 ∷ kind_of s ∷ letter_of s ∷ []) ∷ text_of s ∷ []
told (Err why) = refused_as (number_of why) (place_of why) ∷ []

parsing : ℕ → List ℕ → List (List ℕ) → Case
parsing mask text want = record { got = told (parsed text (record { mask = mask })); want = want }

-- with all letters
reads : List ℕ → ℕ → ℕ → List ℕ → Case
reads text kind letter back = parsing 67108863 text ((0 ∷ 0 ∷ kind ∷ letter ∷ []) ∷ back ∷ [])

refuses : List ℕ → ℕ → ℕ → Case
refuses text number place = parsing 67108863 text (refused_as number place ∷ [])

texts : List Case
texts =
    -- M and m, ^M and ^m, ] alone: written back with a capital
    reads (77 ∷ []) 0 77 (77 ∷ [])
    ∷ reads (109 ∷ []) 0 77 (77 ∷ [])
    ∷ reads (94 ∷ 77 ∷ []) 1 77 (94 ∷ 77 ∷ [])
    ∷ reads (94 ∷ 109 ∷ []) 1 77 (94 ∷ 77 ∷ [])
    ∷ reads (93 ∷ []) 4 0 (93 ∷ [])
    -- a and z; the bytes before a and behind z are no letters
    ∷ reads (97 ∷ []) 0 65 (65 ∷ [])
    ∷ reads (36 ∷ 122 ∷ []) 2 90 (36 ∷ 90 ∷ [])
    ∷ refuses (96 ∷ []) 5 0
    ∷ refuses (123 ∷ []) 5 0
    ∷ refuses (91 ∷ 123 ∷ []) 5 1
    -- 5 asks for the capital: M alone has m, an alphabet without M has neither
    ∷ parsing 4096 (109 ∷ []) ((0 ∷ 0 ∷ 0 ∷ 77 ∷ []) ∷ (77 ∷ []) ∷ [])
    ∷ parsing 67104767 (109 ∷ []) (refused_as 5 0 ∷ [])
    -- 4; 2 before 6 and 5; 6 before 5
    ∷ refuses [] 4 0
    ∷ refuses (109 ∷ 195 ∷ 169 ∷ []) 2 1
    ∷ refuses (225 ∷ []) 2 0
    ∷ refuses (109 ∷ 109 ∷ []) 6 0
    ∷ refuses (94 ∷ 123 ∷ 109 ∷ []) 6 0
    ∷ []

texts_hold : Hold texts
unfolding seek capital is_letter bit_set has first_wide parsed told parsing reads refuses texts
texts_hold = refl

-- ---- records

records : List Case
records =
    -- the second of two; the last of 32
    reading (bare ++ on_m) 1 (0 ∷ 0 ∷ 0 ∷ 77 ∷ 1 ∷ 2 ∷ [])
    ∷ reading (flatten (replicate 32 on_m)) 31 (0 ∷ 0 ∷ 0 ∷ 77 ∷ 1 ∷ 2 ∷ [])
    -- 33 records, also where the length is not whole or the record is none
    ∷ reading (flatten (replicate 33 on_m)) 0 (refused_as 1 0)
    ∷ reading (0 ∷ flatten (replicate 33 on_m)) 40 (refused_as 1 0)
    -- one byte too many, or too few, also where the record is none
    ∷ reading (on_m ++ (0 ∷ [])) 0 (refused_as 8 0)
    ∷ reading (0 ∷ 77 ∷ 1 ∷ 0 ∷ 2 ∷ 0 ∷ 0 ∷ []) 0 (refused_as 8 0)
    ∷ reading (bare ++ (0 ∷ [])) 5 (refused_as 8 0)
    -- no rule; no such record; no records
    ∷ reading (on_m ++ bare) 1 (refused_as 9 1)
    ∷ reading (on_m ++ on_m) 2 (refused_as 9 2)
    ∷ reading [] 0 (refused_as 9 0)
    -- a small letter: no rule
    ∷ reading (on_m ++ (0 ∷ 109 ∷ 1 ∷ 0 ∷ 2 ∷ 0 ∷ 0 ∷ 0 ∷ [])) 1 (refused_as 9 1)
    ∷ []

records_hold : Hold records
unfolding flatten is_capital number_at good_rule read_rule on_m bare said reading records
records_hold = refl

-- ---- in one table

pub table : List Case
table = texts ++ records

pub cases : Hold table
unfolding table
cases = joined texts records texts_hold records_hold
