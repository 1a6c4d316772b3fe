-- `settle` meets its contract. Assumes nothing.
use mathlib.Core.Path.{refl}
use native.Mathlib.Omega.{arith}
use Rattle.enzyme_search.specs.MarkLaws.{thin_marked}
use Rattle.enzyme_samples.proofs.noting.settle.Goals as goal

pub returns-then-crowded : goal.returns-then-crowded
returns-then-crowded c = let a = c.args in
    record {
      count = refl;
      head = refl;
      full = refl;
      marked = thin_marked a.run.count a.run.head a.out.now a.marks.now a.run.samples c.requires.2 c.thin-fewer.new.marks c.thin-fewer.result c.thin-fewer.ensures;
    }

pub split-more-requires : goal.split-more-requires
split-more-requires c = let p = c.crowded.ensures c.if-crowded.false in
    (c.requires.0, c.requires.1, c.requires.2, omega arith, c.requires.3)
