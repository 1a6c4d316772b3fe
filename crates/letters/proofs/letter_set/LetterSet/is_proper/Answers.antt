-- `LetterSet::is_proper` meets its contract. Assumes nothing.
use Rattle.std.proofs.Common.{refl}
use Rattle.letters.specs.Letters.{proper}
use Rattle.letters.proofs.letter_set.LetterSet.is_proper.Goals as goal

pub returns : goal.returns
unfolding proper
returns c = refl
