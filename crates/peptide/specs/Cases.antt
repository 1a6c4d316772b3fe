-- Document 01, P6: "MAM, variable M without limit, combination limit 2: four forms; cap 3: the first three; cap 0: one." Then
-- cases of the slips: a later fixed rule, `^M` and `^`, a rule's own limit, a slot used twice, protein rules off their end;
-- room, and each refusal of `forms`, alone and before a later one. Behind them, peptides made of a form, and of digests.
use Rattle.std.specs.Prelude.{ℕ, ◌-◌, ◌*◌, refl, true, false, cond, length, take, replicate, pos, Float, Ok, Err}
use mathlib.Core.List.{List, [], ◌∷◌, ◌++◌, flatten}
use Rattle.std.specs.Int.Count.{count_trailing_zeros}
use Rattle.std.specs.Float.{fin}
use Rattle.std.specs.Float.Ieee.{span, climb, size, odd, units, round, sum, add, eq, to_unsigned}
use Rattle.peptide_listing.specs.FormTests.{tested_form, tested_lists}
use Rattle.peptide_mass.specs.Masses.{Weighed, add_all, no_mass}
use Rattle.peptide_digests.specs.DigestTests.{unfit, first_unfit, tested_digest}
use Rattle.records.specs.Le.{le, number_at}
use Rattle.records.specs.Cases.{Case, Hold, answered, refused_as, told}
use Rattle.records.specs.CaseLaws.{joined}
use Rattle.records.specs.Refusals.{number_of, place_of}
use Rattle.records.specs.Room.{written}
use Rattle.records.specs.Search.{seek}
use Rattle.letters.specs.Letters.{capital, is_letter, first_bad}
use Rattle.modification_rules.specs.Rules.{good_rule, first_bad_rule}
use Rattle.peptide_choices.specs.Choices.{choices_of, by_size}
use Rattle.peptide_slots.specs.Mirror.{mirror, all_zero}
use Rattle.peptide_forms.specs.Enumeration.{no_cap, up_to_cap}
use Rattle.peptide.specs.declared.making.Peptide.{Peptide}
use Rattle.peptide.specs.Peptides.{Made, residues_of, clear, tested_contents, peptide_from, made_of_form}
use Rattle.peptide.specs.Digested.{digested, made_of_digest, weighed_digest}
use Rattle.peptide.specs.Sites.{rule_sites, passes, filled}
use Rattle.peptide.specs.Forms.{tested_forms, choices, form_of, forms_of, forms_outcome}

abbrev MAM : List ℕ
MAM = 77 ∷ 65 ∷ 77 ∷ []

abbrev mam : ℕ → Peptide
mam position = peptide_from MAM [] position false

-- mam, with small letters
abbrev small : Peptide
small = record { letters = 109 ∷ 97 ∷ 109 ∷ replicate 61 0; ids = replicate 64 0; nterm = 0; cterm = 0; len = 3; position = 2; decoy = false }

-- a rule of a kind on a letter, with an id, without limit
abbrev rule : ℕ → ℕ → ℕ → List ℕ
rule kind letter id = kind ∷ letter ∷ id ∷ 0 ∷ 255 ∷ 255 ∷ 255 ∷ 255 ∷ []

abbrev on_m : ℕ → List ℕ
on_m = rule 0 77

-- at most once on M
abbrev once_m : List ℕ
once_m = 0 ∷ 77 ∷ 1 ∷ 0 ∷ 1 ∷ 0 ∷ 0 ∷ 0 ∷ []

-- a residue without a letter, which is no rule
abbrev none : List ℕ
none = rule 0 0 1

-- so many rules on C, which MAM does not have
abbrev idle : ℕ → List ℕ
idle n = flatten (replicate n (rule 0 67 1))

-- the 66 bytes of a form: both ends, three residues, no more
abbrev form : ℕ → ℕ → ℕ → ℕ → ℕ → List ℕ
form n c a b d = n ∷ c ∷ a ∷ b ∷ d ∷ replicate 61 0

-- forms with rules, combination limit and cap in a buffer of so many bytes 9: the answer, and the forms that stand there then
abbrev forming : Peptide → List ℕ → List ℕ → ℕ → ℕ → ℕ → List ℕ → List (List ℕ) → Case
forming p variable fixed limit cap bytes answer forms =
    record {
      got = told (forms_outcome p variable fixed limit cap (replicate bytes 9));
      want = answer ∷ (flatten forms ++ replicate (bytes - 66 * length forms) 9) ∷ [];
    }

-- in room for more than four
abbrev listing : ℕ → List ℕ → List ℕ → ℕ → ℕ → List (List ℕ) → Case
listing position variable fixed limit cap forms = forming (mam position) variable fixed limit cap 300 (answered (length forms)) forms

-- a refusal, and nothing written
abbrev refusing : Peptide → List ℕ → List ℕ → ℕ → ℕ → ℕ → Case
refusing p variable fixed limit number place = forming p variable fixed limit no_cap 300 (refused_as number place) []

-- refusal 0 is none, and then come the length and the first five slots
abbrev shown : Made → List ℕ
shown (Ok p) = 0 ∷ 0 ∷ p.len ∷ p.nterm ∷ p.cterm ∷ take 3 p.ids
shown (Err why) = refused_as (number_of why) (place_of why)

-- letters with a form and a position
abbrev making : List ℕ → List ℕ → ℕ → List ℕ → Case
making letters bytes position want = record { got = shown (made_of_form letters bytes position false) ∷ []; want = want ∷ [] }

-- five slots, then so many zeros and a byte
abbrev slots : ℕ → ℕ → List ℕ
slots zeros last = 7 ∷ 8 ∷ 1 ∷ 0 ∷ 2 ∷ (replicate zeros 0 ++ (last ∷ []))

abbrev form_cases : List Case
form_cases =
    -- P6: four forms, cap 3, cap 0
    listing 2 (on_m 1) [] 2 no_cap (form 0 0 0 0 0 ∷ form 0 0 1 0 0 ∷ form 0 0 0 0 1 ∷ form 0 0 1 0 1 ∷ [])
    ∷ listing 2 (on_m 1) [] 2 3 (form 0 0 0 0 0 ∷ form 0 0 1 0 0 ∷ form 0 0 0 0 1 ∷ [])
    ∷ listing 2 (on_m 1) [] 2 0 (form 0 0 0 0 0 ∷ [])
    -- a later fixed rule leaves what is filled
    ∷ listing 2 (on_m 1) (on_m 2) 1 no_cap (form 0 0 2 0 2 ∷ form 0 0 1 0 2 ∷ form 0 0 2 0 1 ∷ [])
    -- `^M` hits residue 0, `^` the slot of the end
    ∷ listing 2 (rule 1 77 3 ++ rule 1 0 4) [] 1 no_cap (form 0 0 0 0 0 ∷ form 0 0 3 0 0 ∷ form 4 0 0 0 0 ∷ [])
    -- a rule's limit
    ∷ listing 2 once_m [] 2 no_cap (form 0 0 0 0 0 ∷ form 0 0 1 0 0 ∷ form 0 0 0 0 1 ∷ [])
    -- a slot used twice
    ∷ listing 2 (rule 4 77 5 ++ rule 2 77 6) [] 2 no_cap (form 0 0 0 0 0 ∷ form 0 0 0 0 5 ∷ form 0 0 0 0 6 ∷ [])
    -- protein rules at the N end of a protein, and inside it
    ∷ listing 0 (rule 3 0 7 ++ rule 4 77 8) [] 1 no_cap (form 0 0 0 0 0 ∷ form 7 0 0 0 0 ∷ [])
    ∷ listing 3 (rule 3 0 7 ++ rule 4 0 8 ++ rule 2 0 9) [] 1 no_cap (form 0 0 0 0 0 ∷ form 0 9 0 0 0 ∷ [])
    -- a rule on M hits m, in a peptide that was made of small letters and in one that has them
    ∷ forming (peptide_from (109 ∷ 65 ∷ 109 ∷ []) [] 2 false) (on_m 1) [] 2 no_cap 300 (answered 4) (form 0 0 0 0 0 ∷ form 0 0 1 0 0 ∷ form 0 0 0 0 1 ∷ form 0 0 1 0 1 ∷ [])
    ∷ forming small (on_m 1) (rule 0 65 4) 1 no_cap 300 (answered 3) (form 0 0 0 4 0 ∷ form 0 0 1 4 0 ∷ form 0 0 0 4 1 ∷ [])
    -- ids that the peptide has stay
    ∷ forming (peptide_from MAM (slots 60 0) 2 false) (on_m 3) (rule 0 65 4) 1 no_cap 300 (answered 3) (form 7 8 1 4 2 ∷ form 7 8 1 4 2 ∷ form 7 8 1 4 2 ∷ [])
    -- the greatest sizes
    ∷ listing 2 (idle 16) (idle 32) 8 no_cap (form 0 0 0 0 0 ∷ [])
    -- room: exact, one byte short, for one form, for none
    ∷ forming (mam 2) (on_m 1) [] 2 no_cap 264 (answered 4) (form 0 0 0 0 0 ∷ form 0 0 1 0 0 ∷ form 0 0 0 0 1 ∷ form 0 0 1 0 1 ∷ [])
    ∷ forming (mam 2) (on_m 1) [] 2 no_cap 263 (refused_as 11 0) (form 0 0 0 0 0 ∷ form 0 0 1 0 0 ∷ form 0 0 0 0 1 ∷ [])
    ∷ forming (mam 2) (on_m 1) [] 2 no_cap 66 (refused_as 11 0) (form 0 0 0 0 0 ∷ [])
    ∷ forming (mam 2) (on_m 1) [] 2 no_cap 65 (refused_as 11 0) []
    ∷ forming (mam 2) (on_m 1) [] 2 no_cap 0 (refused_as 11 0) []
    -- 1: no letters; 65 letters; 17 variable rules; 33 fixed ones; combination limit 9
    ∷ refusing (peptide_from [] [] 2 false) [] [] 2 1 0
    ∷ refusing (peptide_from (replicate 65 77) [] 2 false) [] [] 2 1 0
    ∷ refusing (mam 2) (idle 17) [] 2 1 0
    ∷ refusing (mam 2) [] (idle 33) 2 1 0
    ∷ refusing (mam 2) [] [] 9 1 0
    -- 8: a byte too many, a byte too few
    ∷ refusing (mam 2) (on_m 1 ++ (0 ∷ [])) [] 2 8 0
    ∷ refusing (mam 2) [] (take 7 (on_m 1)) 2 8 0
    -- 2: the second byte is no letter; 9: a slot past the length is filled, a position that is none
    ∷ refusing (peptide_from (77 ∷ 42 ∷ 42 ∷ []) [] 2 false) (on_m 1) [] 2 2 1
    ∷ refusing (peptide_from MAM (slots 60 1) 2 false) (on_m 1) [] 2 9 0
    ∷ refusing (mam 4) (on_m 1) [] 2 9 0
    -- 9: a rule on m, which no rule has: the letter of a record is a capital
    ∷ refusing (mam 2) (rule 0 109 1) [] 2 9 0
    -- 9: the second variable rule is none, nor is the third; the third fixed rule has a limit
    ∷ refusing (mam 2) (on_m 1 ++ none ++ none) (on_m 2) 2 9 1
    ∷ refusing (mam 2) once_m (on_m 1 ++ on_m 2 ++ once_m) 2 9 2
    -- 1 before 8; 8 before 2; 2 before 9
    ∷ refusing (mam 2) (0 ∷ []) [] 9 1 0
    ∷ refusing (peptide_from (42 ∷ []) [] 2 false) (0 ∷ []) [] 2 8 0
    ∷ refusing (peptide_from (77 ∷ 42 ∷ []) [] 4 false) none none 2 2 1
    -- 9 of the peptide before that of the rules, of the variable before that of the fixed; 9 before 11
    ∷ refusing (mam 4) (on_m 1 ++ none) none 2 9 0
    ∷ refusing (mam 2) (on_m 1 ++ none) none 2 9 1
    ∷ forming (mam 2) none [] 2 no_cap 0 (refused_as 9 0) []
    -- of a form
    ∷ making MAM (slots 60 0) 2 (0 ∷ 0 ∷ 3 ∷ 7 ∷ 8 ∷ 1 ∷ 0 ∷ 2 ∷ [])
    -- no letters, or 65, also where the form is no record
    ∷ making [] (slots 60 0) 2 (refused_as 1 0)
    ∷ making (replicate 65 77) [] 2 (refused_as 1 0)
    -- a form of 65 bytes, of 67, of none, also where a byte is no letter
    ∷ making MAM (slots 59 0) 2 (refused_as 8 0)
    ∷ making MAM (slots 61 0) 2 (refused_as 8 0)
    ∷ making (42 ∷ []) [] 2 (refused_as 8 0)
    -- a byte that is no letter, also where a slot past the length is filled
    ∷ making (77 ∷ 42 ∷ []) (slots 60 1) 2 (refused_as 2 1)
    -- a slot past the length is filled: the last one, or the third of two letters; a position that is none
    ∷ making MAM (slots 60 1) 2 (refused_as 9 0)
    ∷ making (77 ∷ 65 ∷ []) (slots 60 0) 2 (refused_as 9 0)
    ∷ making MAM (slots 60 0) 4 (refused_as 9 0)
    ∷ []

-- ---- digests

-- ZABCAZ
abbrev protein : List ℕ
protein = 90 ∷ 65 ∷ 66 ∷ 67 ∷ 65 ∷ 90 ∷ []

-- 20 bytes: the range, missed, semi, position and decoy; the letters occur 0 times, which passes
abbrev digest : ℕ → ℕ → ℕ → ℕ → ℕ → ℕ → List ℕ
digest start end missed semi position decoy = le 4 start ++ (le 4 end ++ (missed ∷ semi ∷ position ∷ decoy ∷ (le 4 9 ++ le 4 0)))

-- B is 2 ^ 24, the greatest number up to which a mass can be odd; Z is minus zero; all others are 1
abbrev masses : List Float
masses = fin false 1 (pos 0) ∷ fin false 1 (pos 24) ∷ (replicate 23 (fin false 1 (pos 0)) ++ (fin true 0 (pos 0) ∷ []))

-- refusal 0 is none, and then come the position, the decoy flag and the letters
abbrev cut : Made → List ℕ
cut (Ok p) = 0 ∷ 0 ∷ p.position ∷ cond p.decoy 1 0 ∷ residues_of p
cut (Err why) = refused_as (number_of why) (place_of why)

-- or the mass, a whole number
abbrev mass : Weighed → List ℕ
mass (Ok m) = 0 ∷ 0 ∷ to_unsigned 32 m ∷ []
mass (Err why) = refused_as (number_of why) (place_of why)

abbrev cutting : List ℕ → List ℕ → List Float → List ℕ → List ℕ → Case
cutting letters bytes table peptide weight =
    record { got = cut (made_of_digest letters bytes table) ∷ mass (weighed_digest letters bytes table (fin false 0 (pos 0))) ∷ []; want = peptide ∷ weight ∷ [] }

abbrev without : List ℕ → List ℕ → List Float → ℕ → ℕ → Case
without letters bytes table number place = cutting letters bytes table (refused_as number place) (refused_as number place)

digest_cases : List Case
digest_cases =
    -- a target, its decoy, whose sum rounds elsewhere, one letter, a position that is not the range's
    cutting protein (digest 1 5 0 0 3 0) masses (0 ∷ 0 ∷ 3 ∷ 0 ∷ 65 ∷ 66 ∷ 67 ∷ 65 ∷ []) (0 ∷ 0 ∷ 16777216 ∷ [])
    ∷ cutting protein (digest 1 5 16 1 3 1) masses (0 ∷ 0 ∷ 3 ∷ 1 ∷ 65 ∷ 67 ∷ 66 ∷ 65 ∷ []) (0 ∷ 0 ∷ 16777220 ∷ [])
    ∷ cutting protein (digest 3 4 0 0 2 1) masses (0 ∷ 0 ∷ 2 ∷ 1 ∷ 67 ∷ []) (0 ∷ 0 ∷ 1 ∷ [])
    -- the same of zabcaz: capitals, and their masses
    ∷ cutting (122 ∷ 97 ∷ 98 ∷ 99 ∷ 97 ∷ 122 ∷ []) (digest 1 5 0 0 3 0) masses (0 ∷ 0 ∷ 3 ∷ 0 ∷ 65 ∷ 66 ∷ 67 ∷ 65 ∷ []) (0 ∷ 0 ∷ 16777216 ∷ [])
    ∷ cutting (122 ∷ 97 ∷ 98 ∷ 99 ∷ 97 ∷ 122 ∷ []) (digest 1 5 16 1 3 1) masses (0 ∷ 0 ∷ 3 ∷ 1 ∷ 65 ∷ 67 ∷ 66 ∷ 65 ∷ []) (0 ∷ 0 ∷ 16777220 ∷ [])
    -- 64 letters up to the end; 65, also past the end and where the masses are none
    ∷ cutting (90 ∷ replicate 64 65) (digest 1 65 0 0 1 0) masses (0 ∷ 0 ∷ 1 ∷ 0 ∷ replicate 64 65) (0 ∷ 0 ∷ 64 ∷ [])
    ∷ without (replicate 65 65) (digest 0 65 0 0 2 0) masses 1 0
    ∷ without protein (digest 1 66 0 0 2 0) [] 1 0
    -- 8: 19 bytes, 21 bytes, no masses for Z, also where the first byte is no letter; 19 bytes have no range; the 16 of an older record
    ∷ without protein (take 19 (digest 1 5 0 0 3 0)) masses 8 0
    ∷ without (42 ∷ protein) (digest 1 5 0 0 3 0 ++ (0 ∷ [])) masses 8 0
    ∷ without protein (digest 1 5 0 0 3 0) (take 25 masses) 8 0
    ∷ without protein (take 19 (digest 1 66 0 0 3 0)) masses 8 0
    ∷ without protein (take 16 (digest 1 5 0 0 3 0)) masses 8 0
    -- 2: no letter before the range, behind it; a letter of mass zero inside, of which the place counts from the first letter
    ∷ without (42 ∷ protein) (digest 2 5 0 0 3 0) masses 2 0
    ∷ without (protein ++ (42 ∷ [])) (digest 1 5 0 0 3 0) masses 2 6
    ∷ without protein (digest 1 6 0 0 1 0) masses 2 5
    ∷ without (65 ∷ 122 ∷ 65 ∷ []) (digest 0 3 0 0 2 0) masses 2 1
    ∷ without protein (digest 0 5 0 0 1 1) masses 2 0
    -- also where the record is bad; inside a range that ends past the letters
    ∷ without (protein ++ (42 ∷ [])) (digest 1 5 0 0 4 0) masses 2 6
    ∷ without protein (digest 2 9 0 0 3 0) masses 2 5
    -- 9: an end past the letters, an empty range, one that falls, missed, semi, position, decoy
    ∷ without MAM (digest 1 4 0 0 3 0) masses 9 0
    ∷ without protein (digest 2 2 0 0 3 0) masses 9 0
    ∷ without protein (digest 70 2 0 0 3 0) masses 9 0
    ∷ without protein (digest 1 5 17 0 3 0) masses 9 0
    ∷ without protein (digest 1 5 0 2 3 0) masses 9 0
    ∷ without protein (digest 1 5 0 0 4 0) masses 9 0
    ∷ without protein (digest 1 5 0 0 3 2) masses 9 0
    ∷ without [] (digest 0 1 0 0 2 0) masses 9 0
    ∷ []

-- ---- in one table

form_cases_hold : Hold form_cases
unfolding flatten number_at written seek capital is_letter first_bad good_rule first_bad_rule choices_of by_size all_zero up_to_cap clear tested_contents tested_form rule_sites passes filled tested_lists tested_forms choices form_of forms_of forms_outcome
form_cases_hold = refl

digest_cases_hold : Hold digest_cases
unfolding number_at seek capital is_letter mirror sum add round units odd size span climb count_trailing_zeros eq to_unsigned add_all no_mass unfit first_unfit tested_digest digested made_of_digest weighed_digest digest_cases
digest_cases_hold = refl

pub table : List Case
table = form_cases ++ digest_cases

pub cases : Hold table
unfolding table
cases = joined form_cases digest_cases form_cases_hold digest_cases_hold
