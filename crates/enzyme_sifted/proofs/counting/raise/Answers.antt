-- `raise` meets its contract. Assumes nothing.
use mathlib.Core.Path.{sym}
use lib.ListN.{get_or}
use lib.Seq.{set_out}
use native.Mathlib.Omega.{arith}
use Rattle.enzyme_sifted.specs.Sifted.{one_more}
use Rattle.enzyme_sifted.specs.SiftLaws.{any_default}
use Rattle.enzyme_sifted.proofs.counting.raise.Goals as goal

pub returns-then-i-seen : goal.returns-then-i-seen
returns-then-i-seen c =
    let a = c.args in
    let e = c.from-i.ensures in
    let d = any_default a.seen.now a.code 0 2 (omega (arith, e)) in
    rw (c.one_more.ensures, e, d)

pub returns-else-i-seen : goal.returns-else-i-seen
returns-else-i-seen c =
    let a = c.args in
    sym (set_out a.seen.now a.code (one_more (get_or a.seen.now a.code 2)) (omega arith))
