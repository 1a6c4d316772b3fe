-- `put_digest` meets its contract. Assumes nothing.
use Rattle.std.specs.Prelude.{◌≡◌, ◌+◌}
use Rattle.std.proofs.Common.{◌∙◌, arith}
use Rattle.records.specs.StoreLaws.{store_on, store_end}
use Rattle.digest_groups_runs.proofs.groups.put_digest.Goals as goal

pub loop-i-init : goal.loop-i-init
loop-i-init c = let e : c.args.k + 0 ≡ c.args.k = omega arith in rw e

pub loop-i-preserved : goal.loop-i-preserved
loop-i-preserved c =
    let l = c.loop-i in
    let k = c.args.k in
    let e : k + (l.i + 1) ≡ k + l.i + 1 = omega arith in
    rw e (store_on l.out c.args.digest.now (k + l.i) l.i (omega arith) ∙ l.invariant)

pub returns : goal.returns
returns c =
    let l = c.loop-i in
    store_end l.out c.args.digest.now (c.args.k + l.i) l.i (omega arith) ∙ l.invariant
