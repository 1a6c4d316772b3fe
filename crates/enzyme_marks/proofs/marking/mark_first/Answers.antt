-- `mark_first` meets its contract. Assumes nothing.
use native.Mathlib.Omega.{arith}
use Rattle.enzyme_search.specs.MarkLaws.{first_other, first-new, first_over}
use Rattle.enzyme_marks.proofs.marking.mark_first.Goals as goal

pub returns-then-k-gt0 : goal.returns-then-k-gt0
returns-then-k-gt0 c = let a = c.args in
    first_other a.marks.now a.samples a.first a.k c.requires.1 c.requires.2 (omega arith)

pub returns-then-samples-eq0 : goal.returns-then-samples-eq0
returns-then-samples-eq0 c = let a = c.args in
    first-new a.marks.now a.samples a.first a.k a.head c.requires.0 c.requires.2 (omega arith)

pub returns : goal.returns
returns c = let a = c.args in
    first_over a.marks.now a.samples a.first a.k a.head c.requires.0 c.requires.1 (λ h. omega arith) (λ h. omega arith)
