-- `names_tested` meets its contract. Assumes nothing.
use mathlib.Core.Path.{sym, ◌∙◌}
use borrow.Author.Tests.{ltb-false}
use Rattle.catalogue_names.proofs.names.names_tested.Goals as goal

pub contents_tested-requires : goal.contents_tested-requires
contents_tested-requires c = ltb-false _ _ (sym c.too_many_names.ensures ∙ c.if-too_many_names.false)
