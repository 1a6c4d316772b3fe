-- `seek_bad` meets its contract. Assumes nothing.
use Rattle.std.proofs.Common.{◌≡◌, length, not, sym, ap, ◌∙◌, arith}
use Rattle.records.specs.SeekingLaws.{seeking_all, seeking_stop, seeking_on, seeking_end}
use Rattle.letters.specs.Letters.{first_bad}
use Rattle.letters.proofs.stretch.seek_bad.Goals as goal

pub loop-i-init : goal.loop-i-init
unfolding first_bad
loop-i-init c = seeking_all

pub loop-i-preserved : goal.loop-i-preserved
loop-i-preserved c = seeking_on c.loop-i.invariant (omega arith) (ap not (sym c.is_letter.ensures ∙ c.if-not-is_letter.false))

pub returns-then-not-is_letter : goal.returns-then-not-is_letter
returns-then-not-is_letter c = seeking_stop c.loop-i.invariant (omega arith) (ap not (sym c.is_letter.ensures ∙ c.if-not-is_letter.true))

pub returns : goal.returns
returns c = let l = c.loop-i in let d : l.i ≡ length c.args.s.now = omega arith in sym d ∙ seeking_end l.invariant (omega arith)
