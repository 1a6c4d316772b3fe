-- `list_measured` meets its contract: what is chosen is what is offered and kept. Assumes nothing.
use mathlib.Core.Path.{◌∙◌}
use Rattle.enzyme_lengths.specs.ListingLaws.{chosen-offered}
use Rattle.enzyme_lengths.proofs.listing.list_measured.Goals as goal

pub returns : goal.returns
returns c = c.list_lengths.ensures ∙ chosen-offered c.args.letters.now c.args.terms c.requires.0 c.args.out.now
