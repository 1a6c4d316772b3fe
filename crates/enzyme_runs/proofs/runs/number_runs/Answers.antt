-- `number_runs` meets its contract. Assumes nothing.
use Prim.Native.Nat.{◌<◌}
use mathlib.Core.Path.{◌≡◌, refl, ◌∙◌}
use lib.ListN.{length, get_or, length-set}
use native.Mathlib.Omega.{arith}
use Rattle.enzyme_keys.specs.Keys.{key_of}
use Rattle.enzyme_rows.specs.TurnLaws.{passed_none, passed-more, passed-has, run-starts-none, run-starts-more}
use Rattle.enzyme_runs.proofs.runs.number_runs.Goals as goal

pub loop-i-init : goal.loop-i-init
loop-i-init c = let a = c.args in (refl, run-starts-none (key_of a.by.now) a.order.now a.runs.now, passed_none a.order.now a.runs.now)

pub run_of-run-requires : goal.run_of-run-requires
run_of-run-requires c = let a = c.args in
    let l = c.loop-i in
    let q = passed-has a.order.now l.runs a.g l.i l.last l.run (omega arith) l.invariant.2 in
    let x = get_or a.order.now l.i 0 in
    (c.requires.3 q.0 l.last q.1 q.2, c.requires.3 x x (l.i, omega arith, refl) (omega arith))

pub loop-i-preserved : goal.loop-i-preserved
loop-i-preserved c = let a = c.args in
    let l = c.loop-i in
    let f = key_of a.by.now in
    let h : l.i < length l.runs = omega arith in (
      length-set l.runs l.i c.run_of-run.result ∙ l.invariant.0,
      run-starts-more f a.order.now l.runs l.i l.last l.run l.invariant.1 l.invariant.2 h c.run_of-run.result c.run_of-run.ensures,
      passed-more f a.order.now l.runs l.i l.last l.run l.invariant.1 l.invariant.2 h c.run_of-run.result c.run_of-run.ensures,
    )

pub returns : goal.returns
returns c = let e : c.loop-i.i ≡ c.args.g = omega arith in rw e at c.loop-i.invariant.1

pub shape_of-runs : goal.shape_of-runs
shape_of-runs c = c.loop-i.invariant.0
