-- `made` meets its contract. Assumes nothing.
use Rattle.peptide_forms.specs.RunLaws.{quick}
use Rattle.peptide_forms.proofs.listing.made.Goals as goal

pub returns : goal.returns
unfolding quick
returns c = rw (c.overlaid.ensures, c.with_choice-picked.ensures)
