-- `put_if` meets its contract. Assumes nothing.
use Rattle.peptide_slots.specs.Sites.{if_hit}
use Rattle.peptide_slots.specs.WroteLaws.{wrote_none, wrote_one}
use Rattle.peptide_slots.proofs.sites.put_if.Goals as goal

pub returns-then-hit : goal.returns-then-hit
unfolding if_hit
returns-then-hit c = rw c.if-hit.true (wrote_one _ _ _)

pub returns : goal.returns
unfolding if_hit
returns c = rw c.if-hit.false (wrote_none _ _)
