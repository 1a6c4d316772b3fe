-- `takers` meets its contract. Assumes nothing.
use Prim.Native.Nat.{◌+◌}
use mathlib.Core.Path.{◌≡◌}
use mathlib.Core.Logic.{inr}
use borrow.Author.Tests.{lt-ltb, le-ltb}
use native.Mathlib.Omega.{arith}
use lib.ListN.{get_or}
use Rattle.protein_groups_runs.specs.TakerLaws.{bound, takers_none, takers_more, takers_skip, takers_end}
use Rattle.protein_groups_runs.proofs.runs.takers.Goals.{After-wide, then-w-at, else-w-at}
use Rattle.protein_groups_runs.proofs.runs.takers.Goals as goal

pub loop-i-init : goal.loop-i-init
loop-i-init c = let s = c.args in takers_none s.w.now s.e s.m s.o

-- the boundaries of stretch i, read
read : (c : After-wide)
    → (get_or c.loop-i.w (c.args.e + c.wide.result) 0 ≡ bound c.args.w.now c.args.e c.loop-i.i)
    × (get_or c.loop-i.w (c.args.e + c.wide.result + 1) 0 ≡ bound c.args.w.now c.args.e (c.loop-i.i + 1))
read c =
    let s = c.args in let l = c.loop-i in
    let u : s.e + l.i + 1 ≡ s.e + (l.i + 1) = omega arith in
    rw c.wide.ensures.0 (l.invariant.rest (s.e + l.i) (inr (omega arith)), rw u (l.invariant.rest (s.e + (l.i + 1)) (inr (omega arith))))

pub loop-i-preserved : goal.loop-i-preserved
loop-i-preserved c =
    let s = c.args in let l = c.loop-i in let r = read (goal.at.loop-i-preserved c).After-wide in
    elim c.if-w-at.branch [
      | then-w-at w ↦
          rw (w.w-is, w.k-is) (takers_more s.w.now l.w s.e s.m s.o l.i l.k (omega arith) (omega arith) (lt-ltb _ _ (rw (r.0, r.1) at w.if-w-at.true)) l.invariant)
      | else-w-at w ↦
          rw (w.w-is, w.k-is) (takers_skip s.w.now l.w s.e s.m s.o l.i l.k (omega arith) (le-ltb _ _ (rw (r.0, r.1) at w.if-w-at.false)) l.invariant)
    ]

pub returns : goal.returns
returns c = let s = c.args in let l = c.loop-i in takers_end s.w.now l.w s.e s.m s.o l.i l.k (omega arith) l.invariant
