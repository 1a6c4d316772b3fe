-- `is_name_at` meets its contract. Assumes nothing.
use mathlib.Core.Path.{ap, ◌∙◌}
use Rattle.catalogue_names.specs.NamesInLaws.{name_part}
use Rattle.catalogue_spec.specs.Names.{is_name}
use Rattle.catalogue_names.proofs.names.is_name_at.Goals as goal

pub returns : goal.returns
returns c =
    let a = c.args in
    c.is_name.ensures ∙ ap is_name (name_part a.names.now a.i c.requires)
