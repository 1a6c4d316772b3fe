-- `u32_at` meets its contract. Assumes nothing.
use Rattle.std.proofs.Common.{sym, ◌∙◌, arith}
use Rattle.records.specs.LeLaws.{number_past, number-four}
use Rattle.records.proofs.number.u32_at.Goals as goal

pub returns-then-s-at : goal.returns-then-s-at
returns-then-s-at c = sym (number_past 4 c.args.s.now c.args.at c.if-s-at.true)

pub returns-then-s-at-ge4 : goal.returns-then-s-at-ge4
returns-then-s-at-ge4 c = rw (number-four c.args.s.now c.args.at) (c.from_le_bytes.ensures ∙ omega arith)
