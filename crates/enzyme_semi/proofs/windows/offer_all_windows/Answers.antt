-- `offer_all_windows` meets its contract. Assumes nothing.
use Prim.Native.Nat.{suc, ◌+◌, ◌-◌}
use mathlib.Core.Path.{◌≡◌}
use native.Mathlib.Omega.{arith}
use Rattle.enzyme_parts.specs.Walk.{sites_in}
use Rattle.enzyme_parts.specs.WalkLaws.{sizes-on, window-sizes_end}
use Rattle.enzyme_parts.specs.GoingLaws.{underway_start, underway_end, underway_first, underway_on}
use Rattle.enzyme_semi.proofs.windows.offer_all_windows.Goals as goal

pub loop-k-init : goal.loop-k-init
loop-k-init c =
    let e : c.args.missed + 1 - 0 ≡ suc c.args.missed = omega arith in
    rw e (underway_start c.requires.2)

pub offer_windows-at-requires : goal.offer_windows-at-requires
offer_windows-at-requires c =
    let a = c.args in
    let l = c.loop-k in
    (c.requires.0, underway_first (sizes-on (sites_in a.starts.now a.m) l.k (a.missed + 1 - l.k) (omega arith)) l.invariant)

pub loop-k-preserved : goal.loop-k-preserved
loop-k-preserved c =
    let a = c.args in
    let l = c.loop-k in
    let e : a.missed + 1 - (l.k + 1) ≡ a.missed + 1 - l.k - 1 = omega arith in
    rw e (underway_on (sizes-on (sites_in a.starts.now a.m) l.k (a.missed + 1 - l.k) (omega arith)) l.invariant c.offer_windows-at.ensures (omega arith) (omega arith))

pub returns : goal.returns
returns c = let a = c.args in let l = c.loop-k in underway_end (window-sizes_end (sites_in a.starts.now a.m) l.k (a.missed + 1 - l.k) (omega arith)) l.invariant

pub returns-2 : goal.returns-2
returns-2 c =
    let a = c.args in
    let l = c.loop-k in
    underway_end (window-sizes_end (sites_in a.starts.now a.m) (l.k + 1) (a.missed + 1 - l.k - 1) (omega arith))
    (underway_on (sizes-on (sites_in a.starts.now a.m) l.k (a.missed + 1 - l.k) (omega arith)) l.invariant c.offer_windows-at.ensures (omega arith) (omega arith))
