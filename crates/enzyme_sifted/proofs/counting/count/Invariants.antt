-- `count` meets its contract. Assumes nothing.
use mathlib.Core.Path.{◌≡◌}
use lib.ListN.{length}
use Rattle.enzyme_codes.specs.Codes.{code_at}
use Rattle.enzyme_sifted.specs.Sifted.{CodesSeen}
use Rattle.enzyme_sifted.proofs.counting.count.Given as goal

abbrev pub invariant-loop-z : goal.invariant-loop-z
invariant-loop-z l = (length l.codes ≡ length l.initial.codes) × (length l.seen ≡ length l.initial.seen) × CodesSeen (code_at l.size l.letters l.starts) l.codes l.seen l.z
