-- `begin` meets its contract. Assumes nothing.
use mathlib.Core.Path.{refl}
use Rattle.enzyme_windows.specs.Pieces.{pieces}
use Rattle.enzyme_sizes.specs.ToldLaws.{told_yes, told_no}
use Rattle.enzyme_sizes.proofs.levels.begin.Goals as goal

pub first_level-requires : goal.first_level-requires
first_level-requires c =
    let a = c.args in
    let p = c.requires in
    let e = c.if-looked.true in
    let l = p.2 in
    ((pieces a.knife a.letters.now, p.0), p.1, l.for_order e, l.for_other e, p.3 e, l.for_rank e, l.for_share e)

pub returns-then-looked : goal.returns-then-looked
returns-then-looked c = let a = c.args in told_yes c.if-looked.true (c.first_level.ensures (pieces a.knife a.letters.now) c.requires.0)

pub returns : goal.returns
returns c = told_no c.if-looked.false refl c.requires.4
