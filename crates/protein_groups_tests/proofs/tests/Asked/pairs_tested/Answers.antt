-- `pairs_tested` meets its contract. Assumes nothing.
use mathlib.Core.Path.{◌∙◌}
use Rattle.protein_groups_tests.specs.TestingLaws.{fair, pairs_edges}
use Rattle.protein_groups_tests.proofs.tests.Asked.pairs_tested.Goals as goal

pub first_bad_edge-bad-requires : goal.first_bad_edge-bad-requires
first_bad_edge-bad-requires c = (fair c.args.self.now.pairs.now c.args.self.now.peptides c.args.self.now.proteins c.requires).0

pub returns : goal.returns
returns c =
    let a = c.args.self.now in
    rw (c.first_bad_edge-bad.ensures ∙ pairs_edges a.pairs.now a.peptides a.proteins) at c.field_tested.ensures
