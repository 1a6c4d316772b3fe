-- `contents_tested` meets its contract. Assumes nothing.
use mathlib.Core.Path.{sym, ap, ◌∙◌}
use Rattle.catalogue_spec.specs.NameLaws.{lower_of, tested_parts}
use Rattle.catalogue_names.proofs.names.contents_tested.Goals as goal

pub returns : goal.returns
returns c =
    let f = c.first_bad_name-bad in
    let r = c.first_repeat-again in
    c.told.ensures ∙ ap (lower_of f.result r.result) c.name_count.ensures ∙ sym (tested_parts c.args.names.now f.result r.result f.ensures r.ensures)
