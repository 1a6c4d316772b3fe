-- `letter_at` meets its contract. Assumes nothing.
use Rattle.std.proofs.Common.{sym, ◌∙◌}
use Rattle.letters.specs.ReversalLaws.{letter_inner, letter_outer, letter_past}
use Rattle.letters.proofs.reversal.letter_at.Goals as goal

pub returns-then-n-i : goal.returns-then-n-i
returns-then-n-i c = let a = c.args in sym (letter_past a.decoy a.part.now a.i c.if-n-i.true)

pub returns-then-decoy-i : goal.returns-then-decoy-i
returns-then-decoy-i c = let a = c.args in c.capital.ensures ∙ sym (letter_inner a.decoy a.part.now a.i c.if-decoy-i.true)

pub returns-else-decoy-i : goal.returns-else-decoy-i
returns-else-decoy-i c = let a = c.args in c.capital-else-decoy-i.ensures ∙ sym (letter_outer a.decoy a.part.now a.i c.if-n-i.false c.if-decoy-i.false)
