-- `put_group` meets its contract: three stores are one record, where there is room. Assumes nothing.
use Prim.Native.Nat.{◌*◌, ◌<◌}
use native.Mathlib.Omega.{arith}
use mathlib.Core.Path.{◌∙◌}
use mathlib.Core.List.{◌++◌}
use Rattle.records.specs.Le.{le}
use Rattle.records.specs.Room.{room_of}
use Rattle.records.specs.StoreLaws.{stored_full, stored-free}
use Rattle.digest_groups_runs.specs.TurnLaws.{group_stores}
use Rattle.digest_groups_runs.proofs.groups.put_group.Goals as goal

pub returns-then-room_for-g : goal.returns-then-room_for-g
returns-then-room_for-g c =
    let a = c.args in
    stored_full 28 1048576 a.out.now a.g (a.digest.now ++ le 4 a.at ++ le 4 a.count) (rw c.room_for.ensures at c.if-room_for-g.true)

pub put_digest-requires : goal.put_digest-requires
put_digest-requires c =
    let r : c.args.g < room_of 28 1048576 c.args.out.now = rw c.room_for.ensures at c.if-room_for-g.false in
    omega (arith, r, c.requires.0)

pub returns : goal.returns
returns c =
    let a = c.args in
    let r : a.g < room_of 28 1048576 a.out.now = rw c.room_for.ensures at c.if-room_for-g.false in
    let x = c.put_digest.ensures in
    let y = c.put_u32.ensures in
    let z = c.put_u32-2.ensures in
    rw (z, y, x) (group_stores a.out.now (28 * a.g) a.digest.now a.at a.count c.requires.0) ∙ stored-free 28 1048576 a.out.now a.g (a.digest.now ++ le 4 a.at ++ le 4 a.count) r
