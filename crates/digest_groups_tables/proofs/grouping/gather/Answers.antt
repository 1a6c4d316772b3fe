-- `gather` meets its contract. Assumes nothing.
use Prim.Native.Nat.{◌-◌, ◌/◌}
use native.Mathlib.Omega.{arith}
use mathlib.Core.Path.{◌≡◌}
use lib.ListN.{length, take}
use lib.Seq.{sets}
use Rattle.digest_groups_tables.specs.FinishLaws.{left_grouped}
use Rattle.std.proofs.Common.{rules}
use Rattle.digest_groups_tables.proofs.grouping.gather.Goals as goal

pub answer-requires : goal.answer-requires
answer-requires c = let p = c.requires.0 in (omega (arith, c.gather_runs-g.ensures.few, p.few), p.few)

pub returns : goal.returns
returns c =
    let a = c.args in
    let n = length a.digests.now / 20 in
    let w = c.arrange.new.w in
    let t = c.gather_runs-g in
    let z : n - 0 ≡ n = omega arith in
    let q : c.put_list.new.out ≡ sets a.proteins.now 0 (take n t.new.w) = rw z at c.put_list.ensures in
    rw (c.clear.ensures, q)
    (left_grouped a.names.now a.bounds.now a.letters.now a.digests.now n a.w.now w t.new.w a.groups.now t.new.groups a.proteins.now
    t.result c.answer.result c.arrange.ensures t.ensures (search rules) c.answer.ensures)
