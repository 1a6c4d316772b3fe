-- `short_at` meets its contract: the fourth byte stands past the end. Assumes nothing.
use Rattle.std.proofs.Common.{◌≡◌, ◌+◌, get_or, ◌∙◌, arith}
use Rattle.std.proofs.Math.ListN.{get_or-eq_default}
use Rattle.records.specs.LeLaws.{number-four}
use Rattle.records.proofs.number.short_at.Goals as goal

pub returns : goal.returns
returns c =
    let past : get_or c.args.s.now (c.args.at + 3) 0 ≡ 0 = get_or-eq_default c.args.s.now 0 (omega arith) in
    rw (number-four c.args.s.now c.args.at, past) (c.from_le_bytes.ensures ∙ omega (arith, c.byte_at-b.ensures, c.byte_at-c.ensures))
