-- `lowest` meets its contract. Assumes nothing.
use mathlib.Core.Path.{◌≡◌}
use lib.ListN.{length}
use Rattle.cover_joining.specs.JoiningLaws.{Finding}
use Rattle.cover_joining.proofs.joining.lowest.Given as goal

abbrev pub invariant-loop-up : goal.invariant-loop-up
invariant-loop-up l = (length l.w ≡ length l.initial.w) × Finding l.initial.w l.w l.p l.n l.x l.y l.up

abbrev pub decreases-loop-up : goal.decreases-loop-up
decreases-loop-up l = l.y
