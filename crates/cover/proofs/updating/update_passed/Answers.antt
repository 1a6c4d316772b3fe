-- `update_passed` meets its contract. Assumes nothing.
use Prim.Native.Nat.{ℕ}
use mathlib.Core.Path.{sym, subst}
use lib.ListN.{length}
use Rattle.cover_tests.specs.ReadyLaws.{UpdateReady}
use Rattle.cover.specs.UpdatingLaws.{renewed}
use Rattle.cover.proofs.updating.update_passed.Goals as goal

pub keep_given-requires : goal.keep_given-requires
keep_given-requires c =
    let a = c.args in
    subst (λ (n : ℕ). UpdateReady a.old.now a.new.now a.groups a.metas a.given.now n) (sym c.cover_passed-answer.auto.work) c.requires

pub returns : goal.returns
returns c =
    let a = c.args in
    let made = c.cover_passed-answer in
    let kept = c.keep_given in
    renewed a.old.now a.new.now a.groups a.metas a.given.now (length a.work.now) c.requires a.work.now a.marks.now made.new.work made.new.marks kept.new.work kept.new.marks made.result made.ensures kept.ensures.work_after made.auto.work made.auto.marks kept.auto.marks kept.ensures.mixed
