-- `mix` meets its contract. Assumes nothing.
use mathlib.Core.Path.{◌≡◌}
use lib.ListN.{length}
use Rattle.cover_touched.specs.MixingLaws.{Mixing}
use Rattle.cover_touched.proofs.mixing.mix.Given as goal

abbrev pub invariant-loop-g : goal.invariant-loop-g
invariant-loop-g l = (length l.w ≡ length l.initial.w) × (length l.marks ≡ length l.initial.marks) × Mixing l.groups l.metas l.initial.w l.w l.given l.g l.initial.marks l.marks
