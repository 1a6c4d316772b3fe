-- `update` meets its contract. Assumes nothing.
use mathlib.Core.Path.{sym, ◌∙◌}
use lib.ListN.{length}
use Rattle.cover_tests.specs.ReadyLaws.{update_ready}
use Rattle.cover.proofs.updating.update.Goals as goal

pub update_passed-requires : goal.update_passed-requires
update_passed-requires c = let a = c.args in update_ready a.old.now a.new.now a.groups a.metas a.given.now (length a.work.now) (sym c.update_tested.ensures ∙ c.in_ok-update_tested.was)

pub returns : goal.returns
returns c = rw (sym c.update_tested.ensures ∙ c.in_ok-update_tested.was) c.update_passed.ensures
