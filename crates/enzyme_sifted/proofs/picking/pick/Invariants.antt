-- `pick` meets its contract. Assumes nothing.
use mathlib.Core.Path.{◌≡◌}
use lib.ListN.{length}
use Rattle.enzyme_sifted.specs.Sifted.{RepeatsPicked}
use Rattle.enzyme_sifted.proofs.picking.pick.Given as goal

abbrev pub invariant-loop-z : goal.invariant-loop-z
invariant-loop-z l = (length l.order ≡ length l.initial.order) × RepeatsPicked l.codes l.seen l.order l.z l.k
