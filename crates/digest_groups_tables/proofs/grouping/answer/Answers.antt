-- `answer` meets its contract. Assumes nothing.
use Prim.Native.Nat.{◌/◌, min}
use mathlib.Core.Path.{◌≡◌}
use mathlib.Core.Bool.{true, false, ◌&&◌}
use lib.Dec.{leb}
use Rattle.digest_groups_tables.proofs.grouping.answer.Goals as goal

pub returns-then-g-most : goal.returns-then-g-most
returns-then-g-most c =
    let a = c.args in
    let e : (leb a.g (min (a.groups / 28) 1048576) && leb a.n (min (a.proteins / 1) 1048576)) ≡ true = rw (c.room_for-most.ensures, c.room_for-longest.ensures) at c.if-g-most.true in
    rw e

pub returns-else-g-most : goal.returns-else-g-most
returns-else-g-most c =
    let a = c.args in
    let e : (leb a.g (min (a.groups / 28) 1048576) && leb a.n (min (a.proteins / 1) 1048576)) ≡ false = rw (c.room_for-most.ensures, c.room_for-longest.ensures) at c.if-g-most.false in
    rw e
