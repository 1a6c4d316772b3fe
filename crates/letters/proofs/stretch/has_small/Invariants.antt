-- `has_small` meets its contract: what was found is of the bytes before. Assumes nothing.
use Rattle.std.proofs.Common.{◌≡◌, take}
use Rattle.lists.specs.Lists.{some}
use Rattle.letters.specs.Letters.{is_small}
use Rattle.letters.proofs.stretch.has_small.Given as goal

abbrev pub invariant-loop-b : goal.invariant-loop-b
invariant-loop-b l = l.found ≡ some is_small (take l.b-index l.s)
