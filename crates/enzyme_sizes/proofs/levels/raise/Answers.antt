-- `raise` meets its contract. Assumes nothing.
use Rattle.enzyme_windows.specs.Pieces.{pieces}
use Rattle.enzyme_sizes.specs.ToldLaws.{told_yes, told_no}
use Rattle.enzyme_sizes.proofs.levels.raise.Goals as goal

pub next_level-requires : goal.next_level-requires
next_level-requires c =
    let a = c.args in
    let p = c.requires in
    let e = c.if-looked.true in
    let l = p.2 in
    ((pieces a.knife a.letters.now, p.0.ranked e), p.1, l.for_order e, l.for_other e, l.for_rank e, l.for_share e)

pub returns-then-looked : goal.returns-then-looked
returns-then-looked c =
    let a = c.args in
    let e = c.if-looked.true in
    told_yes e (c.next_level.ensures (pieces a.knife a.letters.now) (c.requires.0.ranked e))

pub returns : goal.returns
returns c = let e = c.if-looked.false in let s = c.requires.0.silent e in told_no e s.0 s.1
