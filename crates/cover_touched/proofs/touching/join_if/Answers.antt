-- `join_if` meets its contract. Assumes nothing.
use native.Mathlib.Omega.{arith}
use Rattle.cover_differing.specs.Walking.{differing}
use Rattle.cover_edges.specs.Records.{edges_in}
use Rattle.cover_touched.specs.TouchingLaws.{seed_yes, seed_no}
use Rattle.cover_touched.proofs.touching.join_if.Goals as goal

pub join-requires : goal.join-requires
join-requires c =
    record {
      forest = rw c.differs_at.ensures.w_unchanged c.requires.forest;
      x_lt_n = (omega arith, omega (arith, c.requires.g_lt_groups), omega (arith, c.requires.groups_linked.groups-max, c.requires.groups_linked.metas-max));
    }

pub returns-then-differs_at : goal.returns-then-differs_at
returns-then-differs_at c =
    let a = c.args in
    let say = c.differs_at.ensures in
    seed_yes c.differs_at.result (differing (edges_in a.old.now) (edges_in a.new.now) a.g) a.g say.value c.if-differs_at.true (rw say.w_unchanged at c.join.ensures)

pub returns-else-differs_at : goal.returns-else-differs_at
returns-else-differs_at c =
    let a = c.args in
    let say = c.differs_at.ensures in
    rw say.w_unchanged (seed_no c.differs_at.result (differing (edges_in a.old.now) (edges_in a.new.now) a.g) a.g say.value c.if-differs_at.false c.requires.forest)
