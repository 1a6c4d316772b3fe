-- `group_proteins` meets its contract: a refusal, or the groups. Assumes nothing.
use mathlib.Core.Path.{sym, ◌∙◌}
use lib.ListN.{length}
use Rattle.std.proofs.lemmas.Result.{err_from_is_err_and}
use Rattle.protein_groups_tests.specs.TestingLaws.{pairs_ready}
use Rattle.protein_groups.proofs.grouping.group_proteins.Goals as goal

pub group_passed-requires : goal.group_passed-requires
group_passed-requires c = let a = c.args in pairs_ready a.pairs.now a.flags.now a.peptides a.proteins (length a.work.now) (sym c.tested.ensures ∙ c.in_ok-tested.was)

pub returns-in_err-tested : goal.returns-in_err-tested
returns-in_err-tested c =
    let p = err_from_is_err_and c.from_residual.result c.from_residual.ensures.1 in
    rw (p.1, p.2, sym c.tested.ensures ∙ c.in_err-tested.was)

pub returns : goal.returns
returns c = rw (sym c.tested.ensures ∙ c.in_ok-tested.was) c.group_passed.ensures
