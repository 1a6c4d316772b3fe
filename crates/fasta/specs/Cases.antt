-- Worked cases of reading, proved of the definitions. Bytes: LF 10, CR 13, blank 32, tab 9, `>` 62.
use Rattle.std.specs.Prelude.{ℕ, refl, length, replicate, Some, None, Ok, Err}
use mathlib.Core.List.{List, [], ◌∷◌, ◌++◌, flatten}
use Rattle.records.specs.Cases.{Case, Hold}
use Rattle.records.specs.Room.{written}
use Rattle.records.specs.Search.{seek}
use Rattle.letters.specs.Letters.{is_capital, capital, is_letter}
use Rattle.catalogue_spec.specs.Names.{name_length, padded}
use Rattle.fasta.specs.Entries.{Read, read_number, read_place, read_outcome}

-- the answer's number and place, and of an entry the place behind it and how many letters it has
abbrev told_read : Read → List ℕ
told_read (Ok (Some e)) = 0 ∷ 0 ∷ e.next ∷ e.letters ∷ []
told_read (Ok None) = 0 ∷ 0 ∷ []
told_read (Err why) = read_number (Err why) ∷ read_place (Err why) ∷ []

-- a file, a place, and so many bytes of room for the name and for the letters, each 170 before; then the answer and what stands in both
case : List ℕ → ℕ → ℕ → ℕ → List ℕ → List ℕ → List ℕ → Case
case file at names letters answer name text =
    let o = read_outcome file at (replicate names 170) (replicate letters 170) in
    record { got = told_read o.answer ∷ o.lent; want = answer ∷ name ∷ text ∷ [] }

-- an entry, with room for one byte more than the record of its name, and for `left` letters more
reads : List ℕ → ℕ → ℕ → List ℕ → List ℕ → ℕ → Case
unfolding case
reads file at next name text left = case file at 65 4 (0 ∷ 0 ∷ next ∷ length text ∷ []) (padded name ++ (170 ∷ [])) (text ++ replicate left 170)

-- another answer, which writes nothing
says : List ℕ → ℕ → ℕ → ℕ → Case
unfolding case
says file at number place = case file at 65 4 (number ∷ place ∷ []) (replicate 65 170) (replicate 4 170)

-- ">a b", LF, "AC", CR LF, "d", LF, LF, ">x"
two : List ℕ
two = 62 ∷ 97 ∷ 32 ∷ 98 ∷ 10 ∷ 65 ∷ 67 ∷ 13 ∷ 10 ∷ 100 ∷ 10 ∷ 10 ∷ 62 ∷ 120 ∷ []

-- ">x", LF, and so on
x : List ℕ → List ℕ
x rest = 62 ∷ 120 ∷ 10 ∷ rest

pub table : List Case
table =
    -- two lines put together, the small letter as a capital; what stands behind the blank is no part of the name
    reads two 0 12 (97 ∷ []) (65 ∷ 67 ∷ 68 ∷ []) 1
    -- line ends before an entry; an entry without letters; a name that ends with the file
    ∷ reads two 10 14 (120 ∷ []) [] 4
    ∷ reads two 12 14 (120 ∷ []) [] 4
    -- a tab ends a name; a CR that no LF follows does not end the line; the rest of the line is ignored, whatever it holds
    ∷ reads (62 ∷ 97 ∷ 9 ∷ 98 ∷ 13 ∷ 200 ∷ 62 ∷ 10 ∷ 65 ∷ []) 0 9 (97 ∷ []) (65 ∷ []) 3
    -- `>` inside a name; a place in the middle of a line whose byte is `>` opens an entry
    ∷ reads (62 ∷ 97 ∷ 62 ∷ 98 ∷ 10 ∷ 65 ∷ []) 0 6 (97 ∷ 62 ∷ 98 ∷ []) (65 ∷ []) 3
    ∷ reads (62 ∷ 97 ∷ 62 ∷ 98 ∷ 10 ∷ 65 ∷ []) 2 6 (98 ∷ []) (65 ∷ []) 3
    -- between CR and LF the file begins with an LF
    ∷ reads (13 ∷ 10 ∷ 62 ∷ 120 ∷ []) 1 4 (120 ∷ []) [] 4
    -- the end, and past it; the empty file; only line ends
    ∷ says two 14 0 0
    ∷ says two 15 9 0
    ∷ says [] 0 0 0
    ∷ says [] 1 9 0
    ∷ says (10 ∷ 13 ∷ 10 ∷ []) 0 0 0
    -- 14: a letter, a blank before `>`, a CR that no LF follows
    ∷ says two 6 14 6
    ∷ says (10 ∷ 32 ∷ 62 ∷ 120 ∷ []) 0 14 1
    ∷ says (10 ∷ 13 ∷ 62 ∷ 120 ∷ []) 0 14 1
    -- 12: no name at the line's end, at the file's, before a blank; a byte that no name has; 65 bytes; always at the byte behind `>`
    ∷ says (62 ∷ 10 ∷ 65 ∷ []) 0 12 1
    ∷ says (62 ∷ []) 0 12 1
    ∷ says (62 ∷ 32 ∷ 97 ∷ 10 ∷ 65 ∷ []) 0 12 1
    ∷ says (10 ∷ 62 ∷ 97 ∷ 127 ∷ 10 ∷ 65 ∷ []) 0 12 2
    ∷ says (62 ∷ 97 ∷ 13 ∷ 98 ∷ 10 ∷ 65 ∷ []) 0 12 1
    ∷ says (62 ∷ replicate 65 97) 0 12 1
    -- 12 before 2
    ∷ says (62 ∷ 10 ∷ 42 ∷ []) 0 12 1
    -- 2: a CR, also the file's last byte, and one before CR LF; `>` inside a line; a blank; the bytes next to the letters
    ∷ says (x (65 ∷ 13 ∷ 67 ∷ [])) 0 2 4
    ∷ says (x (65 ∷ 13 ∷ [])) 0 2 4
    ∷ says (x (65 ∷ 13 ∷ 13 ∷ 10 ∷ [])) 0 2 4
    ∷ says (x (65 ∷ 62 ∷ 67 ∷ [])) 0 2 4
    ∷ says (x (65 ∷ 10 ∷ 32 ∷ 10 ∷ [])) 0 2 5
    ∷ says (x (64 ∷ [])) 0 2 3
    ∷ says (x (91 ∷ [])) 0 2 3
    ∷ says (x (96 ∷ [])) 0 2 3
    ∷ says (x (123 ∷ [])) 0 2 3
    -- places count in the file
    ∷ says (x (65 ∷ 10 ∷ x (65 ∷ 42 ∷ []))) 5 2 9
    -- 11: letters, then the name without room; what fits stands, of the name nothing; room for just that
    ∷ case (x (65 ∷ 67 ∷ [])) 0 64 1 (11 ∷ 0 ∷ []) (padded (120 ∷ [])) (65 ∷ [])
    ∷ case (x (65 ∷ 67 ∷ [])) 0 63 3 (11 ∷ 0 ∷ []) (replicate 63 170) (65 ∷ 67 ∷ 170 ∷ [])
    ∷ case (x (65 ∷ 67 ∷ [])) 0 64 2 (0 ∷ 0 ∷ 5 ∷ 2 ∷ []) (padded (120 ∷ [])) (65 ∷ 67 ∷ [])
    ∷ []

pub cases : Hold table
unfolding flatten written seek name_length is_capital capital is_letter case reads says two x table
cases = refl
