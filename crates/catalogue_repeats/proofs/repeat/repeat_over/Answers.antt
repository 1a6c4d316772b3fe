-- `repeat_over` meets its contract. Assumes nothing.
use mathlib.Core.Path.{◌∙◌}
use Rattle.catalogue_repeats.specs.RepeatingLaws.{repeat_placed, table-left}
use Rattle.catalogue_repeats.proofs.repeat.repeat_over.Goals as goal

pub returns : goal.returns
returns c =
    let a = c.args in
    let p = c.requires in
    let f = c.first_repeated-found in (
      c.place_in.ensures ∙ repeat_placed a.names.now a.tab.now f.result _ p.0 p.1 f.ensures,
      table-left a.names.now a.tab.now f.result f.new.w p.0 p.1 f.ensures,
    )
