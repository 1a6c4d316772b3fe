-- `evidences` meets its contract. Assumes nothing.
use mathlib.Core.List.{[]}
use native.Mathlib.Omega.{arith}
use Rattle.protein_groups_tables.specs.EvidenceLaws.{table-zero, all-below, evident}
use Rattle.protein_groups_tables.proofs.evidence.evidences.Goals as goal

pub number_all-found-requires : goal.number_all-found-requires
number_all-found-requires c =
    let a = c.args in let g = c.requires in let f = g.keyed in let s = c.sort_values in (
      omega arith,
      omega (arith, g.front, f.order, f.ranks, f.counters),
      omega (arith, f.lists, f.keys, f.fits, s.auto.w),
      g.small,
      table-zero a.w.now s.new.w a.k a.plan s.auto.w g s.ensures,
      all-below a.w.now s.new.w a.k a.plan s.auto.w g s.ensures,
    )

pub returns : goal.returns
returns c =
    let a = c.args in let s = c.sort_values in let d = c.number_all-found in let t = c.sort_each in
    evident a.w.now s.new.w a.k a.plan s.auto.w c.requires s.ensures d.new.w d.result d.auto.w d.ensures
    t.new.w t.result [] t.auto.w (rw c.wide-size.ensures.0 at t.ensures)
