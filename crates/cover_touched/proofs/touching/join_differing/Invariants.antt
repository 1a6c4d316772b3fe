-- `join_differing` meets its contract. Assumes nothing.
use mathlib.Core.Path.{◌≡◌}
use lib.ListN.{length}
use Rattle.cover_joining.specs.Joining.{Joined, nodes}
use Rattle.cover_differing.specs.Walking.{differing, GroupsLinked}
use Rattle.cover_edges.specs.Records.{edges_in}
use Rattle.cover_touched.specs.Touching.{seeds}
use Rattle.cover_touched.proofs.touching.join_differing.Given as goal

abbrev pub invariant-loop-g : goal.invariant-loop-g
invariant-loop-g l = (length l.w ≡ length l.initial.w) × GroupsLinked l.old.bytes.now l.old.count l.new.bytes.now l.new.count l.groups l.metas l.w × Joined (seeds (differing (edges_in l.old) (edges_in l.new)) l.g) l.initial.w l.w l.metas (nodes l.groups l.metas)
