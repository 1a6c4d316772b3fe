-- `is_capital` meets its contract. Assumes nothing.
use Rattle.std.proofs.Common.{refl}
use Rattle.letters.specs.Letters.{is_capital}
use Rattle.letters.proofs.stretch.is_capital.Goals as goal

pub returns : goal.returns
unfolding is_capital
returns c = refl
