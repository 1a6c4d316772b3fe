-- `first_no_mass` meets its contract: the search of records, one letter a turn. Assumes nothing.
use Rattle.std.proofs.Common.{◌≡◌, length, sym, ◌∙◌, arith}
use Rattle.records.specs.SeekingLaws.{seeking_all, seeking_stop, seeking_on, seeking_end}
use Rattle.peptide_mass.specs.Masses.{first_no_mass}
use Rattle.peptide_mass.proofs.mass.first_no_mass.Goals as goal

pub loop-i-init : goal.loop-i-init
unfolding first_no_mass
loop-i-init c = seeking_all

pub returns-then-has_no_mass-clause-first : goal.returns-then-has_no_mass-clause-first
returns-then-has_no_mass-clause-first c = seeking_stop c.loop-i.invariant (omega arith) (sym c.has_no_mass.ensures ∙ c.if-has_no_mass.true)

pub loop-i-preserved : goal.loop-i-preserved
loop-i-preserved c = seeking_on c.loop-i.invariant (omega arith) (sym c.has_no_mass.ensures ∙ c.if-has_no_mass.false)

pub returns-clause-first : goal.returns-clause-first
returns-clause-first c =
    let l = c.loop-i in
    let e : l.i ≡ length c.args.letters.now = omega arith in
    sym e ∙ seeking_end l.invariant c.loop-i-test.false
