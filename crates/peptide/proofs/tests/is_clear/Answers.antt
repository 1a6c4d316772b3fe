-- `is_clear` meets its contract. Assumes nothing.
use Rattle.peptide.specs.Peptides.{clear}
use Rattle.peptide.proofs.tests.is_clear.Goals as goal

pub returns : goal.returns
unfolding clear
returns c = rw (c.zero_from.ensures, c.zero_from-2.ensures, c.from-n.ensures)
