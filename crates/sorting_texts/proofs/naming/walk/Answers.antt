-- `walk` meets its contract. Assumes nothing.
use mathlib.Core.Path.{sym, ◌∙◌}
use lib.ListN.{get_or}
use Rattle.sorting_texts.specs.EntryLaws.{entry_short}
use Rattle.sorting_texts.specs.WalkLaws.{left-past, left-none, left-on, left_end, left_over}
use native.Mathlib.Omega.{arith}
use Rattle.sorting_texts.proofs.naming.walk.Goals as goal

pub returns-then-n-at : goal.returns-then-n-at
returns-then-n-at c =
    let a = c.args in
    left-none a.letters.now a.keys.now a.at a.i c.requires.within (left-past a.letters.now a.keys.now a.at a.i c.if-n-at.true)

pub entry_number-number-requires : goal.entry_number-number-requires
entry_number-number-requires c = (c.requires.tag, rw c.number_at-x.ensures c.requires.within)

pub overflow_add-result : goal.overflow_add-result
overflow_add-result c = let a = c.args in omega (arith, c.requires.within, entry_short a.letters.now a.keys.now (get_or a.keys.now a.at 0))

pub returns-then-number-ne0 : goal.returns-then-number-ne0
returns-then-number-ne0 c =
    let a = c.args in
    rw (c.entry_number-number.ensures, c.number_at-x.ensures)
    (left-on a.letters.now a.keys.now a.at a.i (omega arith) c.requires.within (λ e. c.if-number-ne0.true (c.entry_number-number.ensures ∙ rw c.number_at-x.ensures e)))

pub returns-then-x-n : goal.returns-then-x-n
returns-then-x-n c =
    let a = c.args in
    left-none a.letters.now a.keys.now a.at a.i c.requires.within
    (left_end a.letters.now a.keys.now a.at a.i (omega arith) c.requires.within
    (rw c.number_at-x.ensures at (sym c.entry_number-number.ensures ∙ c.if-number-ne0.false))
    (rw c.number_at-x.ensures at c.if-x-n.true))

pub returns : goal.returns
returns c =
    let a = c.args in
    left_over a.letters.now a.keys.now a.at a.i (omega arith) c.requires.within
    (rw c.number_at-x.ensures at (sym c.entry_number-number.ensures ∙ c.if-number-ne0.false))
    (rw c.number_at-x.ensures at c.if-x-n.false)
