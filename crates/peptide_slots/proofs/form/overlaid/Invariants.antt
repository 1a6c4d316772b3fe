-- `overlaid` meets its contract. The invariant: each slot below k is done. Assumes nothing.
use Rattle.std.proofs.Common.{ℕ, List, get_or}
use Rattle.peptide_slots.specs.Hits.{fill}
use Rattle.peptide_slots.specs.OverlayLaws.{Upto}
use Rattle.peptide_slots.proofs.form.overlaid.Given as goal

abbrev pub merge : List ℕ → ℕ → ℕ → ℕ
merge table k old = fill (get_or table k 0) old

abbrev pub invariant-loop-k : goal.invariant-loop-k
invariant-loop-k l = Upto (merge l.table.slots) l.form.slots l.k l.slots
