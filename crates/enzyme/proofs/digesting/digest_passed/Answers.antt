-- `digest_passed` meets its contract: a whole run. Assumes nothing.
use native.Mathlib.Omega.{arith}
use mathlib.Core.Path.{ap, ◌∙◌}
use lib.ListN.{length-map}
use Rattle.letters.specs.Letters.{capital, capitals}
use Rattle.enzyme_keep.specs.Steps.{among}
use Rattle.enzyme_keep.specs.StepLaws.{offers_capped}
use Rattle.enzyme_ways.specs.Ways.{way}
use Rattle.enzyme.specs.RunLaws.{run_answer, run-all}
use Rattle.enzyme.proofs.digesting.digest_passed.Goals as goal

pub returns-in_default : goal.returns-in_default
returns-in_default c = let a = c.args in
    ap run_answer (rw c.in_default.is at c.offer_read.ensures) ∙ run-all a.enzyme a.missed a.terms (capitals a.letters.now) a.out.now (rw (length-map a.letters.now capital) c.requires.0)

pub overflow_cast-count : goal.overflow_cast-count
overflow_cast-count c = let a = c.args in
    let cs = way a.enzyme a.missed a.terms.minimum a.terms.maximum (capitals a.letters.now) in
    omega (arith, offers_capped (capitals a.letters.now) a.terms (among (capitals a.letters.now) cs) (way a.enzyme a.missed a.terms.minimum a.terms.maximum (capitals a.letters.now)) 0 a.out.now c.in-Some.k _ (omega arith) (rw c.in-Some.is at c.offer_read.ensures))

pub returns : goal.returns
returns c = let a = c.args in
    ap run_answer (rw c.in-Some.is at c.offer_read.ensures) ∙ run-all a.enzyme a.missed a.terms (capitals a.letters.now) a.out.now (rw (length-map a.letters.now capital) c.requires.0)
