-- `tested` meets its contract: the tests in order. Assumes nothing.
use mathlib.Core.Path.{sym, ◌∙◌}
use borrow.Author.Tests.{lt-ltb, le-ltb}
use Rattle.digest_groups.specs.DigestGroupingLaws.{grouping_few_names, grouping-whole-names}
use Rattle.digest_groups.proofs.tests.tested.Goals as goal

pub returns-then-words-work_needed : goal.returns-then-words-work_needed
returns-then-words-work_needed c =
    let v = lt-ltb _ _ (rw c.work_needed.ensures at c.if-words-work_needed.true) in
    rw (sym c.too_large.ensures ∙ c.if-too_large.false, sym c.is_uneven.ensures ∙ c.if-is_uneven.false, v)

pub contents_tested-requires : goal.contents_tested-requires
contents_tested-requires c =
    let a = c.args in (
      grouping_few_names a.names.now a.letters.now a.digests.now (sym c.too_large.ensures ∙ c.if-too_large.false),
      grouping-whole-names a.names.now a.bounds.now a.digests.now (sym c.is_uneven.ensures ∙ c.if-is_uneven.false),
    )

pub returns : goal.returns
returns c =
    let v = le-ltb _ _ (rw c.work_needed.ensures at c.if-words-work_needed.false) in
    rw (sym c.too_large.ensures ∙ c.if-too_large.false, sym c.is_uneven.ensures ∙ c.if-is_uneven.false, v) c.contents_tested.ensures

pub returns-then-too_large : goal.returns-then-too_large
returns-then-too_large c = rw (sym c.too_large.ensures ∙ c.if-too_large.true)

pub returns-then-is_uneven : goal.returns-then-is_uneven
returns-then-is_uneven c = rw (sym c.too_large.ensures ∙ c.if-too_large.false, sym c.is_uneven.ensures ∙ c.if-is_uneven.true)
