-- `group_digests` meets its contract: a refusal, or the groups. Assumes nothing.
use mathlib.Core.Path.{sym, ◌∙◌}
use lib.ListN.{length}
use Rattle.digest_groups.specs.DigestGroupingLaws.{grouping-passed}
use Rattle.digest_groups.proofs.grouping.group_digests.Goals as goal

pub gather-requires : goal.gather-requires
gather-requires c =
    let a = c.args in
    grouping-passed a.names.now a.bounds.now a.letters.now a.digests.now (length a.work.now) (sym c.tested.ensures ∙ c.in_ok-tested.was)
