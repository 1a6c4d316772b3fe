-- `is_good` meets its contract. Assumes nothing.
use Rattle.enzyme_keep.proofs.fields.is_good.Goals as goal

pub returns : goal.returns
returns c = rw (c.u32_at-start.ensures, c.u32_at-end.ensures, c.byte_at-missed.ensures, c.byte_at-semi.ensures, c.byte_at-position.ensures, c.byte_at-decoy.ensures)
