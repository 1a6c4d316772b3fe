-- `offer_windows` meets its contract. Assumes nothing.
use Prim.Native.Nat.{◌+◌}
use mathlib.Core.Path.{◌≡◌, ap}
use native.Mathlib.Omega.{arith}
use Rattle.enzyme_samples.specs.Ready.{loaded}
use Rattle.enzyme_parts.specs.Walk.{site_start}
use Rattle.enzyme_parts.specs.WalkLaws.{spans_on, spans_end, windows-start}
use Rattle.enzyme_parts.specs.GoingLaws.{underway_start, underway_end, range-first, range-on}
use Rattle.enzyme_semi.proofs.windows.offer_windows.Goals as goal

pub loop-i-init : goal.loop-i-init
loop-i-init c =
    let a = c.args in
    let e : 0 + a.missed ≡ a.missed = omega arith in
    rw (e, ← windows-start (site_start a.starts.now) a.missed a.m) (underway_start c.requires.1)

pub offer_window-at-requires : goal.offer_window-at-requires
offer_window-at-requires c =
    let a = c.args in
    let l = c.loop-i in
    (omega arith, omega (arith, c.requires.0), range-first (ap (loaded 1) (spans_on (site_start a.starts.now) a.missed l.i (l.i + a.missed) a.m (omega arith))) l.invariant)

pub loop-i-preserved : goal.loop-i-preserved
loop-i-preserved c =
    let a = c.args in
    let l = c.loop-i in
    let e : l.i + 1 + a.missed ≡ l.i + a.missed + 1 = omega arith in
    rw e (range-on (ap (loaded 1) (spans_on (site_start a.starts.now) a.missed l.i (l.i + a.missed) a.m (omega arith))) l.invariant c.offer_window-at.ensures (omega arith) (omega arith))

pub returns : goal.returns
returns c = let a = c.args in let l = c.loop-i in underway_end (ap (loaded 1) (spans_end (site_start a.starts.now) a.missed l.i (l.i + a.missed) a.m (omega arith))) l.invariant
