-- `next_cut` meets its contract: the letters before i do not cut. Assumes nothing.
use native.Mathlib.Omega.{arith}
use mathlib.Core.Path.{◌≡◌, sym, ◌∙◌}
use mathlib.Core.Bool.{false}
use lib.ListN.{drop}
use Rattle.enzyme_cuts.specs.Cutting.{starts_in}
use Rattle.enzyme_cuts.specs.ScanLaws.{asked, find_cut-on, find_cut_end}
use Rattle.enzyme_cuts.proofs.scan.next_cut.Goals.{else-cleaves-via-then-cleaves+else-not-spares, else-cleaves-via-else-cleaves}
use Rattle.enzyme_cuts.proofs.scan.next_cut.Goals as goal

pub loop-i-preserved : goal.loop-i-preserved
loop-i-preserved c = let a = c.args in
    let l = c.loop-i in
    let e : asked a.knife a.letters.now l.i ≡ false = elim c.else-cleaves.branch [
      | else-cleaves-via-then-cleaves+else-not-spares w ↦
          let s : w.spares.result ≡ starts_in a.knife.skip (drop c.cut_of-place.result a.letters.now) = w.spares.ensures in
          rw (← c.cleaves.ensures, ← c.cut_of-place.ensures, ← s, w.if-cleaves.true, w.if-not-spares.false)
      | else-cleaves-via-else-cleaves w ↦ rw (← c.cleaves.ensures, w.if-cleaves.false)
    ] in
    sym (find_cut-on a.knife a.letters.now l.i (omega arith) e) ∙ l.invariant

pub returns : goal.returns
returns c = let a = c.args in
    let l = c.loop-i in
    sym (find_cut_end a.knife a.letters.now l.i (omega arith)) ∙ l.invariant
