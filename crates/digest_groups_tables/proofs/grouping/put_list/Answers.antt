-- `put_list` meets its contract: all is stored, or there is no room for the rest. Assumes nothing.
use Rattle.std.specs.Prelude.{length, drop}
use Rattle.std.proofs.Common.{sym, ◌∙◌, ⊎_elim, arith}
use Rattle.lists.specs.Tests.{below?}
use Rattle.records.specs.LeLaws.{sets_out}
use Rattle.records.specs.StoreLaws.{store_on, store_end}
use Rattle.digest_groups_tables.proofs.grouping.put_list.Goals as goal

pub loop-i-preserved : goal.loop-i-preserved
loop-i-preserved c = let l = c.loop-i in store_on l.out c.args.list.now l.i l.i (omega arith) ∙ l.invariant

pub returns : goal.returns
returns c =
    let l = c.loop-i in
    let v = c.args.list.now in
    ⊎_elim
    (λ h. sym (sets_out (drop l.i v) l.out l.i (omega (arith, h, c.min-n.ensures))) ∙ l.invariant)
    (λ h. store_end l.out v l.i l.i (omega (arith, h, c.min-n.ensures)) ∙ l.invariant)
    (below? l.i (length v))
