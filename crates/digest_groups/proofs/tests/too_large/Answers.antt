-- `too_large` meets its contract. Assumes nothing.
use Rattle.digest_groups.proofs.tests.too_large.Goals as goal

pub returns : goal.returns
returns c = rw (c.too_many_names.ensures, c.too_many_letters.ensures)
