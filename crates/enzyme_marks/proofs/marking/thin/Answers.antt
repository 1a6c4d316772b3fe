-- `thin` meets its contract. Assumes nothing.
use Prim.Native.Nat.{◌+◌, ◌*◌}
use mathlib.Core.Path.{◌≡◌}
use native.Mathlib.Omega.{arith}
use lib.ListN.{get_or}
use Rattle.enzyme_search.specs.MarkLaws.{thinning_none, thinning_on}
use Rattle.enzyme_marks.proofs.marking.thin.Goals as goal

pub loop-i-init : goal.loop-i-init
loop-i-init c = thinning_none c.args.marks.now c.args.samples

pub loop-i-preserved : goal.loop-i-preserved
loop-i-preserved c = let a = c.args in
    let l = c.loop-i in
    thinning_on a.marks.now l.marks l.i a.samples c.both-size.result (get_or l.marks (3 * (2 * l.i) + 2) 0) (omega arith) c.requires l.invariant

pub returns : goal.returns
returns c = let e : c.loop-i.i ≡ c.div_ceil-left.result = omega arith in rw (← e) c.loop-i.invariant.done
