-- `proteins_of` meets its contract. Assumes nothing.
use lib.Seq.{length-take-le}
use lib.ListN.{length-set}
use mathlib.Core.Path.{sym}
use native.Mathlib.Omega.{arith}
use Rattle.replay_proteins.proofs.passes.proteins_of.Goals as goal

pub returns-then-out-n : goal.returns-then-out-n
returns-then-out-n c = let l = c.loop-k in (omega arith, sym (length-take-le l.n l.out (omega arith)))

pub bounds-out-n : goal.bounds-out-n
bounds-out-n c = omega arith

pub loop-k-preserved : goal.loop-k-preserved
loop-k-preserved c = (simp length-set (omega arith), simp length-set (omega arith), omega arith)

pub returns : goal.returns
returns c = let l = c.loop-k in (omega arith, sym (length-take-le l.n l.out (omega arith)))
