-- `is_uneven` meets its contract. Assumes nothing.
use Rattle.digest_groups.proofs.tests.is_uneven.Goals as goal

pub returns : goal.returns
returns c = rw (c.has_bounds.ensures, c.name_count-proteins.ensures, c.are_whole_names.ensures)
