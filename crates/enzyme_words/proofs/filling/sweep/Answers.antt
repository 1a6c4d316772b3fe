-- `sweep` meets its contract. Assumes nothing.
use native.Mathlib.Omega.{arith}
use Prim.Native.Nat.{◌+◌, ◌-◌, ◌≤◌, ◌<◌}
use lib.ListN.{length}
use Rattle.enzyme_words.specs.WordLaws.{code-small, swept_start, on_reach, swept_on, swept_end}
use Rattle.enzyme_words.proofs.filling.sweep.Goals.{After-end_at-r}
use Rattle.enzyme_words.proofs.filling.sweep.Goals as goal

pub loop-i-init : goal.loop-i-init
loop-i-init c = let a = c.args in swept_start a.letters.now a.q (length a.count.now) a.far.now c.requires.5

pub end_at-r-requires : goal.end_at-r-requires
end_at-r-requires c =
    let a = c.args in
    let l = c.loop-i in
    (omega arith, omega arith, omega arith, λ h. let e = l.invariant.codes (l.i - 1) (omega arith) h in omega (arith, code-small a.letters.now (l.i - 1) a.q (length a.count.now) c.requires.4))

-- what the picked end is
ends : (c : After-end_at-r) → (c.loop-i.i - 1 < c.end_at-r.result) × (c.end_at-r.result ≤ length c.args.letters.now + 1)
ends c =
    let a = c.args in
    let p = c.requires in
    let l = c.loop-i in
    let x = on_reach a.letters.now a.q (length a.count.now) p.0 a.count.now p.6 l.i (l.i - 1) l.far l.r l.invariant (omega arith) (omega arith) c.end_at-r.result c.end_at-r.ensures in
    (x.0, x.1)

pub overflow_sub-x : goal.overflow_sub-x
overflow_sub-x c = let h = ends (goal.at.overflow_sub-x c).After-end_at-r in omega arith

pub overflow_sub-x-in-loop-i : goal.overflow_sub-x-in-loop-i
overflow_sub-x-in-loop-i c = let h = ends (goal.at.overflow_sub-x-in-loop-i c).After-end_at-r in omega arith

pub overflow_cast-x : goal.overflow_cast-x
overflow_cast-x c = let h = ends (goal.at.overflow_cast-x c).After-end_at-r in omega arith

pub loop-i-preserved : goal.loop-i-preserved
loop-i-preserved c =
    let a = c.args in
    let p = c.requires in
    let l = c.loop-i in
    swept_on a.letters.now a.q (length a.count.now) p.0 a.count.now p.6 l.i (l.i - 1) l.far l.r l.invariant (omega arith) (omega arith) c.end_at-r.result c.end_at-r.ensures

pub returns : goal.returns
returns c = let l = c.loop-i in swept_end c.args.letters.now c.args.q (length c.args.count.now) l.i l.far l.r (omega arith) l.invariant
