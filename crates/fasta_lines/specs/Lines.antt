-- Document 02, [1]: "Line ends are LF or CR LF; a line without either ends at the file's end. Empty lines are skipped." "A blank is a
-- space or a tab; a CR not followed by LF is an ordinary byte."
use Rattle.std.specs.Prelude.{ℕ, suc, Bool, cond, not, ◌&&◌, ◌||◌, List, [], ◌∷◌, get_or, eqb}
use Rattle.letters.specs.Letters.{is_letter}
use Rattle.fasta_lines.specs.declared.runs.Run.{Run}
use Rattle.fasta_lines.specs.declared.runs.Run.TheVariants.{Ends, Line, Word, Letters}

-- whether a byte belongs to a line end, by the byte behind it (0 behind the last): LF is 10, CR is 13
abbrev pub line_end : ℕ → ℕ → Bool
line_end b next = eqb b 10 || (eqb b 13 && eqb next 10)

-- a space or a tab
abbrev pub blank : ℕ → Bool
blank b = eqb b 32 || eqb b 9

-- whether a byte, with the one behind it, continues a run
abbrev pub goes_on : Run → ℕ → ℕ → Bool
-- line ends
goes_on Ends b next = line_end b next
-- what a line holds
goes_on Line b next = not (line_end b next)
-- what stands before the first blank or line end
goes_on Word b next = not (line_end b next || blank b)
-- letters and line ends
goes_on Letters b next = line_end b next || is_letter b

-- how many bytes at the front of a list continue a run
abbrev pub run_of : Run → List ℕ → ℕ
run_of k [] = 0
run_of k (b ∷ s) = cond (goes_on k b (get_or s 0 0)) (suc (run_of k s)) 0

-- lines put together: the bytes that belong to no line end
abbrev pub together : List ℕ → List ℕ
together [] = []
together (b ∷ s) = cond (line_end b (get_or s 0 0)) (together s) (b ∷ together s)

-- how many bytes stand before the next line that starts with `>`, which is 62, or all
abbrev pub entry_length : List ℕ → ℕ
entry_length [] = 0
entry_length (b ∷ s) = suc (cond (eqb b 10 && eqb (get_or s 0 0) 62) 0 (entry_length s))
