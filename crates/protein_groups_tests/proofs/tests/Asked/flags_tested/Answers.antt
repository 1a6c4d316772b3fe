-- `flags_tested` meets its contract. Assumes nothing.
use mathlib.Core.Path.{◌∙◌}
use Rattle.protein_groups_tests.specs.TestingLaws.{flags_marks}
use Rattle.protein_groups_tests.proofs.tests.Asked.flags_tested.Goals as goal

pub returns : goal.returns
returns c = rw (c.first_bad_mark-bad.ensures ∙ flags_marks c.args.self.now.flags.now) at c.field_tested.ensures
