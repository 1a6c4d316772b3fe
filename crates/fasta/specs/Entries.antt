-- Document 02, [1]: "a line starting with `>` opens an entry, its name is what follows up to the first blank or line end, and the
-- other lines up to the next such line are its letters."
use Rattle.std.specs.Prelude.{ℕ, ◌+◌, ◌≡◌, Bool, cond, ◌&&◌, List, [], ◌∷◌, length, take, drop, ltb, leb, eqb, Err, Some, None, Ok, Option, Result}
use Rattle.records.specs.declared.refusal.Refusal.TheVariants.{Letter, Field, Room, Name, Stray}
use Rattle.records.specs.Refusals.{number_of, place_of}
use Rattle.records.specs.Outcome.{Outcome, outcome, unless_refused, only}
use Rattle.records.specs.Room.{fits, fitted, singly}
use Rattle.letters.specs.Letters.{capitals}
use Rattle.catalogue_spec.specs.Names.{name_length, padded}
use Rattle.fasta_lines.specs.declared.runs.Run.TheVariants.{Ends, Line, Word, Letters}
use Rattle.fasta_lines.specs.Lines.{run_of, together, entry_length}
use Rattle.fasta.specs.declared.entry.Entry.{Entry}
use Rattle.fasta.specs.declared.entry.Fault.{Fault}
use Rattle.fasta.specs.declared.entry.Fault.TheVariants.{Long, Refused}
use Rattle.records.specs.Answers.{Passed, Tested}

-- ---- an entry: the bytes behind its `>`

-- what follows up to the first blank or line end; the rest of the line is ignored
abbrev pub entry_name : List ℕ → List ℕ
entry_name e = take (run_of Word e) e

-- what stands behind its first line
abbrev pub entry_lines : List ℕ → List ℕ
entry_lines e = drop (run_of Line e) e

-- the other lines put together
abbrev pub entry_letters : List ℕ → List ℕ
entry_letters e = together (entry_lines e)

-- ---- what is wrong with it: "then for each entry 1 (place of its `>`), 12 (first byte of the name, or where it should stand), 2 (the
-- byte), all places counted in the file"; q is the place of its `>`

-- 1: more than a protein's 65,536 letters, bad ones too
abbrev pub too_long : List ℕ → Bool
too_long e = ltb 65536 (length (entry_letters e))

-- a name has 1 to 64 bytes from 33 to 126
abbrev pub good_name : List ℕ → Bool
good_name n = ltb 0 (length n) && leb (length n) 64 && eqb (name_length n) (length n)

-- how many bytes behind the first line are letters and line ends, up to the first that is neither
abbrev pub good_letters : List ℕ → ℕ
good_letters e = run_of Letters (entry_lines e)

-- 12, then 2
abbrev pub entry_tested : ℕ → List ℕ → Tested
entry_tested q e =
    cond (good_name (entry_name e))
    (cond (ltb (good_letters e) (length (entry_lines e))) (Err (Letter (q + 1 + run_of Line e + good_letters e))) Passed)
    (Err (Name (q + 1)))

-- ---- what reading answers, and what the two buffers hold then

-- an entry, or that only line ends are left; else why none was read
abbrev pub Read : Type 0
Read = Result (Option Entry) Fault

-- a good entry: its name as a record of 64 bytes and its letters as capitals, each with room; 11 if either is short
abbrev pub given_outcome : ℕ → List ℕ → List ℕ → List ℕ → Outcome Read
given_outcome q e name letters =
    let n = padded (entry_name e) ∷ [] in
    let l = singly (capitals (entry_letters e)) in
    outcome
    (cond (fits 64 1 name n && fits 1 65536 letters l) (Ok (Some (record { next = q + 1 + length e; letters = length (entry_letters e) }))) (Err (Refused Room)))
    (fitted 64 1 name n ∷ fitted 1 65536 letters l ∷ [])

-- an entry: 1, then 12 and 2, then 11
abbrev pub entry_outcome : ℕ → List ℕ → List ℕ → List ℕ → Outcome Read
entry_outcome q e name letters =
    cond (too_long e) (outcome (Err (Long q)) (name ∷ letters ∷ []))
    (unless_refused (entry_tested q e) (λ why. Err (Refused why)) (name ∷ letters ∷ []) (given_outcome q e name letters))

-- behind line ends, at the place q: "answers none where only line ends are left"; "14, a byte other than a line end before the first `>`,
-- its place, before all others but that"
abbrev pub opened_outcome : ℕ → List ℕ → List ℕ → List ℕ → Outcome Read
opened_outcome q [] name letters = outcome (Ok None) (name ∷ letters ∷ [])
opened_outcome q (b ∷ s) name letters = cond (eqb b 62) (entry_outcome q (take (entry_length s) s) name letters) (outcome (Err (Refused (Stray q))) (name ∷ letters ∷ []))

-- a file that begins at a place: line ends are skipped
abbrev pub file_outcome : ℕ → List ℕ → List ℕ → List ℕ → Outcome Read
file_outcome at s name letters = opened_outcome (at + run_of Ends s) (drop (run_of Ends s) s) name letters

-- "The call reads as if the file began at its place"; "9, a place past the end (0)"
abbrev pub read_outcome : List ℕ → ℕ → List ℕ → List ℕ → Outcome Read
read_outcome bytes at name letters =
    cond (ltb (length bytes) at) (outcome (Err (Refused (Field 0))) (name ∷ letters ∷ []))
    (file_outcome at (drop at bytes) name letters)

-- ---- the number and the place of each case

abbrev pub fault_number : Fault → ℕ
fault_number (Long at) = 1
fault_number (Refused why) = number_of why

abbrev pub fault_place : Fault → ℕ
fault_place (Long at) = at
fault_place (Refused why) = place_of why

abbrev pub read_number : Read → ℕ
read_number (Ok found) = 0
read_number (Err why) = fault_number why

abbrev pub read_place : Read → ℕ
read_place (Ok found) = 0
read_place (Err why) = fault_place why

-- no second answer and no second contents meet the contract of `read_entry`
pub read_only : (bytes : List ℕ) (at : ℕ) (name letters : List ℕ) (r q : Read) (k l : List (List ℕ))
    → outcome r k ≡ read_outcome bytes at name letters → outcome q l ≡ read_outcome bytes at name letters → (r ≡ q) × (k ≡ l)
read_only bytes at name letters r q k l = only r q k l (read_outcome bytes at name letters)
