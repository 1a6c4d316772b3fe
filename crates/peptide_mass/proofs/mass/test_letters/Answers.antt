-- `test_letters` meets its contract: one test after the other. Assumes nothing.
use Rattle.std.proofs.Common.{length, arith}
use Rattle.peptide_mass.specs.MassLaws.{letters-size, letters-length, letters_letter, letters-passed}
use Rattle.peptide_mass.proofs.mass.test_letters.Goals as goal

pub returns-then-n : goal.returns-then-n
returns-then-n c = letters-size c.args.letters.now c.args.masses.now c.if-n.true

pub returns-then-masses-ne26 : goal.returns-then-masses-ne26
returns-then-masses-ne26 c = letters-length c.args.letters.now c.args.masses.now c.if-n.false c.if-masses-ne26.true

pub returns-in-Some : goal.returns-in-Some
returns-in-Some c =
    let a = c.args in
    letters_letter a.letters.now a.masses.now c.if-n.false c.if-masses-ne26.false c.in-Some.bad c.in-Some.ensures.first c.in-Some.ensures.within

pub returns-in-None : goal.returns-in-None
returns-in-None c =
    let a = c.args in
    letters-passed a.letters.now a.masses.now c.if-n.false c.if-masses-ne26.false (length a.letters.now) c.in-None.ensures.first (omega arith)
