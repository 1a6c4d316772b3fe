-- `seal_all` meets its contract. Assumes nothing.
use mathlib.Core.Path.{◌∙◌}
use Rattle.enzyme_keep.proofs.sealing.seal_all.Goals as goal

pub returns : goal.returns
returns c = c.seal.ensures ∙ rw c.room_for-n.ensures
