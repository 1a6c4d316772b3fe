-- `edges_tested` meets its contract. Assumes nothing.
use Rattle.cover_tests.proofs.tests.edges_tested.Goals as goal

pub returns : goal.returns
returns c = rw c.first_bad_edge-bad.ensures at c.field_tested.ensures
