-- `read_all` is safe and ends. Assumes nothing.
use Prim.Native.Nat.{◌≤◌}
use mathlib.Core.Path.{◌≡◌}
use lib.ListN.{length}
use Rattle.fasta_listing_names.proofs.reading.read_all.Given as goal

abbrev pub invariant-loop : goal.invariant-loop
invariant-loop g l = (l.window.to ≤ l.window.filled) × (l.window.filled ≤ length l.bytes) × (length l.bytes ≡ length l.initial.bytes) × (length l.names ≡ length l.initial.names) × (length l.places ≡ length l.initial.places) × (length l.letters ≡ length l.initial.letters)
