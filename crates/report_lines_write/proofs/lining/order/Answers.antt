-- `order` meets its contract. Assumes nothing.
use Prim.Native.Nat.{◌*◌}
use mathlib.Core.Path.{◌≡◌}
use Rattle.sorting_texts.specs.declared.text.By.TheVariants.{Joined}
use Rattle.sorting_slices.specs.Sorting.{arranged}
use Rattle.report_lines_write.specs.OrderLaws.{sort_fits, line_ordered}
use Rattle.report_lines_write.proofs.lining.order.Goals as goal

pub returns : goal.returns
returns c =
    let p = c.requires in
    let a = c.args in
    let r = c.arrange-count in
    let f = sort_fits a.names.now p r.ensures in
    let e : c.sort.new.w ≡ arranged Joined a.names.now 0 r.result a.c (2 * a.c) r.new.w = rw f at c.sort.ensures.1 in
    rw e (line_ordered a.names.now p r.ensures)
