-- `more` meets its contract. Assumes nothing.
use Prim.Native.Nat.{◌<◌}
use native.Mathlib.Omega.{arith}
use borrow.Author.Tests.{leb-false}
use Rattle.cover_walk.proofs.walking.more.Goals.{After-wide-c}
use Rattle.cover_walk.proofs.walking.more.Goals as goal

listed : (c : After-wide-c) → c.wide-c.result < c.args.areas.groups
listed c = rw c.wide-c.ensures.0 (c.requires.0.tables.order.below c.args.i c.requires.1)

pub size_at-requires : goal.size_at-requires
size_at-requires c =
    let lists = c.requires.0.tables.by_group in
    let z = lists.sizes c.wide-c.result (listed (goal.at.size_at-requires c).After-wide-c) in
    (omega (arith, lists.fits, listed (goal.at.size_at-requires c).After-wide-c), omega arith)

pub returns : goal.returns
returns c =
    let z = c.requires.0.tables.by_group.sizes c.wide-c.result (listed (goal.at.returns c).After-wide-c) in
    λ e. rw (← c.wide-c.ensures.0) (omega (arith, leb-false c.args.d c.size_at.result e, c.size_at.ensures))
