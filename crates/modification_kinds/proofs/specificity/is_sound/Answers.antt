-- `is_sound` meets its contract. Assumes nothing.
use Rattle.modification_kinds.proofs.specificity.is_sound.Goals as goal

pub returns : goal.returns
returns c = cc
