-- `is_good_digest` meets its contract. Assumes nothing.
use Rattle.digest_groups.proofs.tests.is_good_digest.Goals as goal

pub returns : goal.returns
returns c = rw (c.is_good.ensures, c.width-whole.ensures, c.u32_at-protein.ensures, c.u32_at-end.ensures)
