-- `write_placed` meets its contract: one way out for each way of the two tests. Assumes nothing.
use native.Mathlib.Omega.{arith}
use mathlib.Core.Path.{◌≡◌}
use mathlib.Core.Bool.{true, false}
use borrow.Author.Tests.{lt-ltb, le-ltb}
use Rattle.enzyme_keep.specs.Steps.{digest_room}
use Rattle.enzyme_keep.proofs.offering.write_placed.Goals as goal

pub returns-then-not-wanted : goal.returns-then-not-wanted
returns-then-not-wanted c = let f : c.args.wanted ≡ false = c.if-not-wanted.true in rw f

pub returns-then-room_for-count : goal.returns-then-room_for-count
returns-then-room_for-count c = let f : c.args.wanted ≡ true = c.if-not-wanted.false in
    rw (f, le-ltb c.args.count (digest_room c.args.out.now) (omega arith))

pub returns : goal.returns
returns c = let f : c.args.wanted ≡ true = c.if-not-wanted.false in
    rw (c.put_placed.ensures, f, lt-ltb c.args.count (digest_room c.args.out.now) (omega arith))
