-- `keep_given` meets its contract. Assumes nothing.
use Prim.Native.Nat.{◌≤◌, ◌<◌}
use native.Mathlib.Omega.{arith}
use mathlib.Core.Logic.{⊎_elim}
use Rattle.lists.specs.Tests.{below?}
use Rattle.cover.specs.UpdatingLaws.{update_sized}
use Rattle.cover.proofs.updating.keep_given.Goals.{Else-k-eq0}
use Rattle.cover.proofs.updating.keep_given.Goals as goal

-- there is a group
positive : (c : Else-k-eq0) → 1 ≤ c.args.groups
positive c = ⊎_elim (λ (h : 0 < c.min-k.result). omega (arith, c.min-k.ensures)) (λ (h : c.min-k.result ≤ 0). absurd (c.if-k-eq0.false (omega arith))) (below? 0 c.min-k.result)

pub renew-requires : goal.renew-requires
renew-requires c =
    let k = c.min-k.ensures in
    record {
      update_sized = rw (c.of-before.ensures.0, c.of-before.ensures.1, c.of-after.ensures.0, c.of-after.ensures.1) (update_sized c.requires (positive (goal.at.renew-requires c).Else-k-eq0));
      k_le_groups = (omega (arith, k), omega (arith, k, c.requires.as_many), omega (arith, k));
    }

pub returns : goal.returns
returns c = record { mixed = rw (c.min-k.ensures, c.of-before.ensures.0, c.of-before.ensures.1, c.of-after.ensures.0, c.of-after.ensures.1) at c.renew.ensures.mixed; work_after = c.renew.ensures.w_after }
