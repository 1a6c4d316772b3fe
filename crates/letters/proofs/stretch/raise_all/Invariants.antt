-- `raise_all` meets its contract: the places before hold capitals, the others what they held. Assumes nothing.
use Rattle.std.proofs.Common.{◌≡◌, ℕ, ◌<◌, length, get_or}
use Rattle.lists.specs.FrameLaws.{Framed}
use Rattle.letters.specs.Letters.{capital}
use Rattle.letters.proofs.stretch.raise_all.Given as goal

abbrev pub invariant-loop-b : goal.invariant-loop-b
invariant-loop-b l = (length l.s ≡ length l.initial.s) × ((j : ℕ) → j < l.b-index → get_or l.s j 0 ≡ capital (get_or l.initial.s j 0)) × Framed 0 l.b-index l.initial.s l.s
