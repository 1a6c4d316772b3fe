-- `first_unfit` meets its contract: the search of records, one letter a turn. Assumes nothing.
use Rattle.std.proofs.Common.{◌≡◌, length, sym, ◌∙◌, arith}
use Rattle.records.specs.SeekingLaws.{seeking_all, seeking_stop, seeking_on, seeking_end}
use Rattle.peptide_digests.specs.DigestTests.{first_unfit}
use Rattle.peptide_digests.proofs.digests.first_unfit.Goals as goal

pub loop-i-init : goal.loop-i-init
unfolding first_unfit
loop-i-init c = seeking_all

pub returns-then-is_unfit-clause-first : goal.returns-then-is_unfit-clause-first
returns-then-is_unfit-clause-first c = seeking_stop c.loop-i.invariant (omega arith) (sym c.is_unfit.ensures ∙ c.if-is_unfit.true)

pub loop-i-preserved : goal.loop-i-preserved
loop-i-preserved c = seeking_on c.loop-i.invariant (omega arith) (sym c.is_unfit.ensures ∙ c.if-is_unfit.false)

pub returns-clause-first : goal.returns-clause-first
returns-clause-first c =
    let l = c.loop-i in
    let e : l.i ≡ length c.args.letters.now = omega arith in
    sym e ∙ seeking_end l.invariant c.loop-i-test.false
