-- `join` meets its contract. Assumes nothing.
use Rattle.std.proofs.Common.{arith, ◌≡◌, ◌∙◌, ⊎_elim}
use Prim.Native.Nat.{◌+◌, ◌<◌, ◌≤◌}
use lib.ListN.{length-set}
use Rattle.lists.specs.Tests.{below?}
use Rattle.cover_joining.specs.JoiningLaws.{joined-left, joined_right}
use Rattle.cover_joining.proofs.joining.join.Goals as goal

pub shape_of-w : goal.shape_of-w
shape_of-w c = length-set c.lowest-b.new.w (c.args.p + c.max.result) c.min.result ∙ c.lowest-b.auto.w ∙ c.lowest-a.auto.w

pub returns : goal.returns
returns c =
    let a = c.args in
    let x = c.lowest-a.result in
    let y = c.lowest-b.result in
    ⊎_elim (λ (h : x < y). let high : c.max.result ≡ y = omega (arith, c.max.ensures) in let low : c.min.result ≡ x = omega (arith, c.min.ensures) in
    rw (high, low) (joined-left a.w.now c.lowest-a.new.w c.lowest-b.new.w a.p a.n a.x a.y x y c.requires.x_lt_n.0 c.requires.x_lt_n.1 c.lowest-a.ensures c.lowest-b.ensures h))
    (λ (h : y ≤ x). let high : c.max.result ≡ x = omega (arith, c.max.ensures) in let low : c.min.result ≡ y = omega (arith, c.min.ensures) in
    rw (high, low) (joined_right a.w.now c.lowest-a.new.w c.lowest-b.new.w a.p a.n a.x a.y x y c.requires.x_lt_n.0 c.requires.x_lt_n.1 c.lowest-a.ensures c.lowest-b.ensures h)) (below? x y)
