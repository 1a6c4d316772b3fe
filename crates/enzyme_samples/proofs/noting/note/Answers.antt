-- `note` meets its contract. Assumes nothing.
use native.Mathlib.Omega.{arith}
use Rattle.enzyme_search.specs.MarkLaws.{has_few, chained_first, first-marked, same_samples_listed}
use Rattle.enzyme_samples.proofs.noting.note.Goals as goal

pub mark_first-samples-requires : goal.mark_first-samples-requires
mark_first-samples-requires c = let a = c.args in
    let h = has_few a.run.count a.run.head a.out.now a.run.head (chained_first a.run.count a.run.head a.out.now c.requires.2) in
    let k = c.requires.1 in
    (omega arith, c.requires.3.room, c.requires.4, omega arith)

pub settle-requires : goal.settle-requires
settle-requires c = let a = c.args in
    let f = c.mark_first-samples in
    let h = chained_first a.run.count a.run.head a.out.now c.requires.2 (omega (arith, c.if-run-eq0.false)) in
    let m = first-marked a.run.count a.run.head a.out.now a.marks.now a.run.samples c.requires.3 a.run.head a.k f.new.marks f.result h f.ensures in
    (c.requires.0, c.requires.1, same_samples_listed a.run.count a.run.head a.out.now f.new.marks f.result m c.count_one-size.new.marks c.count_one-size.ensures, rw c.saturating_sub-j.ensures f.ensures.there)
