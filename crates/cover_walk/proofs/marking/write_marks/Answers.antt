-- `write_marks` meets its contract. Assumes nothing.
use mathlib.Core.Path.{◌≡◌}
use Prim.Native.Nat.{◌+◌}
use native.Mathlib.Omega.{arith}
use Rattle.cover_spec.specs.ListedLaws.{listed_is}
use Rattle.cover_edges.specs.PutLaws.{puts_none, puts_low}
use Rattle.cover_walk.proofs.marking.write_marks.Goals as goal

pub loop-i-preserved : goal.loop-i-preserved
loop-i-preserved c = let lp = c.loop-i in let l = lp.invariant.size in puts_low lp.i lp.invariant (omega arith) c.mark.ensures

pub returns : goal.returns
returns c =
    let lp = c.loop-i in
    let l = lp.invariant.size in
    listed_is _ _ lp.out l (λ g h. let z : 0 + g ≡ g = omega arith in rw z at (lp.invariant.put g (omega arith)))

pub loop-i-init : goal.loop-i-init
loop-i-init c = puts_none

pub overflow_add-a : goal.overflow_add-a
overflow_add-a c = omega (arith, c.requires, c.loop-i.invariant.size)

pub offset_bounds-w-a : goal.offset_bounds-w-a
offset_bounds-w-a c = omega (arith, c.requires, c.loop-i.invariant.size)

pub bounds-w-a : goal.bounds-w-a
bounds-w-a c = omega (arith, c.requires, c.loop-i.invariant.size)

pub shape_of-out : goal.shape_of-out
shape_of-out c = c.loop-i.invariant.size
