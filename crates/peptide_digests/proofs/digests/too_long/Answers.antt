-- `too_long` meets its contract. Assumes nothing.
use Rattle.peptide_digests.proofs.digests.too_long.Goals as goal

pub returns : goal.returns
returns c = rw (c.u32_at-start.ensures, c.u32_at-end.ensures)
