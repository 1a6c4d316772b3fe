-- `copy_run` meets its contract. Assumes nothing.
use Prim.Native.Nat.{◌+◌}
use mathlib.Core.Path.{refl}
use native.Mathlib.Omega.{arith}
use lib.ListN.{get_or}
use Rattle.protein_groups_numbering.specs.SpreadLaws.{run-copied-none, run-copied-more}
use Rattle.protein_groups_numbering.proofs.spreading.copy_run.Goals as goal

pub loop-i-init : goal.loop-i-init
loop-i-init c = let a = c.args in run-copied-none a.w.now a.from a.a a.b a.g

pub loop-i-preserved : goal.loop-i-preserved
loop-i-preserved c =
    let a = c.args in let pre = c.requires in let l = c.loop-i in
    run-copied-more a.w.now l.w a.from l.i a.len a.a a.b a.g (get_or l.w (a.from + l.i) 0) (omega arith) pre.0 pre.1 (omega arith) refl l.invariant
