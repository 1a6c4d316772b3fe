-- `is_small` meets its contract. Assumes nothing.
use Rattle.std.proofs.Common.{refl}
use Rattle.letters.proofs.stretch.is_small.Goals as goal

pub returns : goal.returns
returns c = refl
