-- `arrange` meets its contract. Assumes nothing.
use native.Mathlib.Omega.{arith}
use Rattle.digest_groups_tables.specs.SortedLaws.{sorted-tables}
use Rattle.digest_groups_tables.proofs.grouping.arrange.Goals as goal

pub returns : goal.returns
returns c =
    let a = c.args in
    let p = c.requires in
    let t = c.spell_all in
    let m = t.new.w in
    sorted-tables a.bounds.now a.letters.now a.digests.now a.n m p.0 t.ensures (omega (arith, p.1)) c.sort.new.w c.sort.ensures.1
