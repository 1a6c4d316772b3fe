-- `group_passed` meets its contract. Assumes nothing.
use Prim.Native.Nat.{◌/◌}
use native.Mathlib.Omega.{arith}
use mathlib.Core.Path.{◌≡◌}
use lib.ListN.{length}
use Rattle.protein_groups.specs.ProteinGroupingLaws.{none-listed}
use Rattle.protein_groups.proofs.grouping.group_passed.Goals as goal

pub returns-then-asked-lt8 : goal.returns-then-asked-lt8
returns-then-asked-lt8 c =
    let a = c.args in
    let z : length a.asked.now.pairs.now / 8 ≡ 0 = omega arith in
    rw (c.clear.ensures, z) (none-listed a.asked.now.flags.now a.asked.now.peptides a.work.now a.edges.now a.members.now)
