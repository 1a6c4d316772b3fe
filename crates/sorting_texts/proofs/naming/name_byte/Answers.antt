-- `name_byte` meets its contract. Assumes nothing.
use mathlib.Core.Path.{sym, ◌∙◌}
use Rattle.sorting_texts.specs.EntryLaws.{name_at, name_past}
use native.Mathlib.Omega.{arith}
use Rattle.sorting_texts.proofs.naming.name_byte.Goals as goal

pub returns-then-k-ge64 : goal.returns-then-k-ge64
returns-then-k-ge64 c = let a = c.args in sym (name_past a.letters.now a.x a.k c.if-k-ge64.true)

pub returns : goal.returns
returns c =
    let a = c.args in
    c.byte_at.ensures ∙ sym (name_at a.letters.now a.x a.k (omega arith))
