-- `all_good` meets its contract: as long as all are letters, the first that is none is still ahead. Assumes nothing.
use Rattle.std.proofs.Common.{◌≡◌, not, length, sym, ap, ◌∙◌, arith}
use Rattle.lists.specs.Tests.{both}
use Rattle.records.specs.SeekingLaws.{seeking_all, seeking_on, seeking_end}
use Rattle.letters.specs.Letters.{first_bad}
use Rattle.letters.proofs.stretch.all_good.Goals as goal

pub loop-b-init : goal.loop-b-init
unfolding first_bad
loop-b-init c = λ e. seeking_all

pub loop-b-preserved : goal.loop-b-preserved
loop-b-preserved c = λ e. let t = both c.loop-b.good c.is_letter-good.result e in seeking_on (c.loop-b.invariant t.0) (omega arith) (ap not (sym c.is_letter-good.ensures ∙ t.1))

pub returns : goal.returns
returns c = let l = c.loop-b in λ e. let d : l.b-index ≡ length c.args.s.now = omega arith in sym d ∙ seeking_end (l.invariant e) (omega arith)
