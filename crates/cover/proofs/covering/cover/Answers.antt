-- `cover` meets its contract: a refusal, or the cover. Assumes nothing.
use mathlib.Core.Path.{sym, ◌∙◌}
use lib.ListN.{length}
use Rattle.cover_tests.specs.ReadyLaws.{cover_ready}
use Rattle.cover.proofs.covering.cover.Goals as goal

pub cover_passed-requires : goal.cover_passed-requires
cover_passed-requires c = let a = c.args in cover_ready a.edges.now a.groups a.metas (length a.work.now) (sym c.cover_tested.ensures ∙ c.in_ok-cover_tested.was)

pub returns : goal.returns
returns c = rw (sym c.cover_tested.ensures ∙ c.in_ok-cover_tested.was) c.cover_passed.ensures
