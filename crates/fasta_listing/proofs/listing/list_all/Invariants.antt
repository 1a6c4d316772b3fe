-- `list_all` is safe and ends. Assumes nothing.
use Prim.Native.Nat.{◌≤◌}
use mathlib.Core.Path.{◌≡◌}
use lib.ListN.{length}
use Rattle.fasta_listing.proofs.listing.list_all.Given as goal

abbrev pub invariant-loop : goal.invariant-loop
invariant-loop g l = (l.window.to ≤ l.window.filled) × (l.window.filled ≤ length l.bytes) × (length l.bytes ≡ length l.initial.bytes) × (length l.letters ≡ length l.initial.letters) × (length l.out ≡ length l.initial.out)
