-- `list_later` meets its contract: the inner starts, then the last. Assumes nothing.
use mathlib.Core.Path.{◌∙◌}
use Rattle.enzyme_lengths.specs.StartLaws.{part-kept, part_full}
use Rattle.enzyme_lengths.proofs.listing.list_later.Goals as goal

pub returns-in_err-k : goal.returns-in_err-k
returns-in_err-k c = let a = c.args in
    let m = c.inner_end-end in
    let x = c.list_placed in
    rw c.from_residual.ensures (part_full a.tables.now.letters.now a.protein a.len a.from m.result a.to a.count a.out.now x.new.out m.ensures.0 m.ensures.1 (rw c.in_err-k.was at x.ensures.0), x.ensures.1)

pub returns : goal.returns
returns c = let a = c.args in
    let m = c.inner_end-end in
    let x = c.list_placed in
    let y = c.list_placed-2.ensures in
    (y.0 ∙ part-kept a.tables.now.letters.now a.protein a.len a.from m.result a.to a.count a.out.now x.new.out m.ensures.0 m.ensures.1 c.in_ok-k.k (rw c.in_ok-k.was at x.ensures.0), y.1)
