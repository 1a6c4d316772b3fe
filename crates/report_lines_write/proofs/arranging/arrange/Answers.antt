-- `arrange` meets its contract. Assumes nothing.
use mathlib.Core.Logic.{inl, inr}
use native.Mathlib.Omega.{arith}
use Rattle.report_lines_write.specs.ReadyLaws.{texts_ready}
use Rattle.report_lines_write.proofs.arranging.arrange.Goals as goal

pub copy-requires : goal.copy-requires
copy-requires c =
    let l = c.requires in
    let m = c.mark_lasts-count.ensures in
    (omega (arith, m.as_long, l.long, l.within), omega (arith, m.as_long, l.long, l.within), inl (omega (arith, l.within)))

pub copy-requires-2 : goal.copy-requires-2
copy-requires-2 c =
    let l = c.requires in
    let m = c.mark_lasts-count.ensures in
    let p = c.copy.ensures in (
      omega (arith, p.as_long, m.as_long, m.counted, l.long, l.fit),
      omega (arith, p.as_long, m.as_long, m.counted, l.long, l.fit),
      inr (omega (arith, m.counted, l.fit)),
    )

pub returns : goal.returns
returns c = texts_ready c.requires c.mark_lasts-count.ensures c.copy.ensures c.copy-2.ensures
