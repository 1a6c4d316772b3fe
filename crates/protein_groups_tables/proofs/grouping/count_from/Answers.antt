-- `count_from` meets its contract. Assumes nothing.
use native.Mathlib.Omega.{arith}
use Rattle.protein_groups_tables.specs.ProteinLaws.{row_none, row_more}
use Rattle.protein_groups_tables.proofs.grouping.count_from.Goals as goal

pub loop-i-init : goal.loop-i-init
loop-i-init c = row_none c.args.w.now c.args.o c.args.n

pub loop-i-preserved : goal.loop-i-preserved
loop-i-preserved c =
    let a = c.args in let l = c.loop-i in
    rw c.wide.ensures.0 (row_more a.w.now l.w a.o a.n l.i (omega arith) (omega (arith, c.requires)) l.invariant)
