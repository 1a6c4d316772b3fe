-- `window` meets its contract. The invariant: the places below i are done. Assumes nothing.
use Rattle.std.proofs.Common.{ℕ, ◌+◌, List, get_or}
use Rattle.peptide_slots.specs.OverlayLaws.{Upto}
use Rattle.peptide_slots.proofs.windows.window.Given as goal

-- what is stored at place k
abbrev pub byte_at : ℕ → List ℕ → ℕ → ℕ → ℕ
byte_at from bytes k old = get_or bytes (from + k) 0

abbrev pub invariant-loop-i : goal.invariant-loop-i
invariant-loop-i l = Upto (byte_at l.from l.bytes) l.initial.out l.i l.out
