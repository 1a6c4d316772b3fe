-- `LetterSet::is_subset` meets its contract. Assumes nothing.
use Rattle.letters.specs.LetterLaws.{subset_bits}
use Rattle.letters.proofs.letter_set.LetterSet.is_subset.Goals as goal

pub returns : goal.returns
returns c = subset_bits c.args.self c.args.other
