-- `learn` meets its contract. Assumes nothing.
use Prim.Native.Nat.{◌+◌, ◌≤◌}
use mathlib.Core.Path.{◌≡◌}
use native.Mathlib.Omega.{arith}
use lib.ListN.{get_or, length-set}
use Rattle.protein_groups_numbering.specs.KnowingLaws.{learn_old, learn_new, learn_room}
use Rattle.protein_groups_numbering.proofs.numbering.learn.Goals.{After-wide-then-w-at-eq0}
use Rattle.protein_groups_numbering.proofs.numbering.learn.Goals as goal

unknown : (c : After-wide-then-w-at-eq0) → get_or c.args.w.now (c.args.t + c.args.x) 0 ≡ 0
unknown c = let e : c.wide.result ≡ c.args.x = c.wide.ensures.0 in rw e at c.if-w-at-eq0.true

room : (c : After-wide-then-w-at-eq0) → c.args.found + 1 ≤ c.args.m
room c = let a = c.args in let pre = c.requires in learn_room a.w.now a.b a.t a.m a.found a.x pre.1 pre.2 pre.3 pre.0 (unknown c)

pub bounds-w-at-then-w-at-eq0 : goal.bounds-w-at-then-w-at-eq0
bounds-w-at-then-w-at-eq0 c = let a = c.args in omega (arith, length-set a.w.now (a.b + c.wide-then-w-at-eq0.result) a.x)

pub returns-then-w-at-eq0 : goal.returns-then-w-at-eq0
returns-then-w-at-eq0 c =
    let a = c.args in let pre = c.requires in
    let e : c.wide.result ≡ a.x = c.wide.ensures.0 in
    let f : c.wide-then-w-at-eq0.result ≡ a.found = c.wide-then-w-at-eq0.ensures.0 in
    rw (e, f) (learn_new a.w.now a.b a.t a.m a.found a.x pre.1 pre.2 pre.3 pre.0 (unknown (goal.at.returns-then-w-at-eq0 c).After-wide-then-w-at-eq0))

pub returns : goal.returns
returns c =
    let a = c.args in let pre = c.requires in
    let e : c.wide.result ≡ a.x = c.wide.ensures.0 in
    learn_old a.w.now a.b a.t a.m a.found a.x pre.1 pre.2 pre.3 pre.0 (rw e at c.if-w-at-eq0.false)

pub overflow_add-w : goal.overflow_add-w
overflow_add-w c = omega (arith, room (goal.at.overflow_add-w c).After-wide-then-w-at-eq0)

pub overflow_add-result : goal.overflow_add-result
overflow_add-result c = omega (arith, room (goal.at.overflow_add-result c).After-wide-then-w-at-eq0)
