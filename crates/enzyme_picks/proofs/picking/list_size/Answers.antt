-- `list_size` meets its contract: the windows ahead give the whole. Assumes nothing.
use native.Mathlib.Omega.{arith}
use mathlib.Core.Path.{◌≡◌, refl, sym, ◌∙◌}
use Prim.Native.Nat.{suc, ◌+◌, ◌-◌}
use Rattle.enzyme_weights.specs.Weights.{weight_at}
use Rattle.enzyme_picks.specs.PickLaws.{turn-kept, turn_full, put_end}
use Rattle.enzyme_picks.proofs.picking.list_size.Goals as goal

pub returns-in_err-k : goal.returns-in_err-k
returns-in_err-k c =
    let a = c.args in
    let l = c.loop-i in
    let e = l.i + (c.from-before.result + 1) in
    let y : c.from-before.result + 1 ≡ suc a.missed = omega arith in
    let z : a.m - a.missed - l.i ≡ suc a.m - e = omega arith in
    rw c.from_residual.ensures (turn_full a.n a.terms.protein a.starts.now (weight_at a.level.now (suc a.missed)) a.terms.minimum a.terms.maximum a.missed l.i a.m e (omega arith) (omega arith) _ _ c.length_within-fits.result c.times_of-times.result
    refl refl c.length_within-fits.ensures (rw y at c.times_of-times.ensures) l.k l.out c.write_range.new.out (rw z at l.invariant.1) (rw c.in_err-k.was at c.write_range.ensures))

pub loop-i-preserved : goal.loop-i-preserved
loop-i-preserved c =
    let a = c.args in
    let l = c.loop-i in
    let e = l.i + (c.from-before.result + 1) in
    let y : c.from-before.result + 1 ≡ suc a.missed = omega arith in
    let z : a.m - a.missed - l.i ≡ suc a.m - e = omega arith in
    let x : a.m - a.missed - (l.i + 1) ≡ suc a.m - (e + 1) = omega arith in (
      omega (arith, c.write_range.auto.out, l.invariant.0),
      rw x (turn-kept a.n a.terms.protein a.starts.now (weight_at a.level.now (suc a.missed)) a.terms.minimum a.terms.maximum a.missed l.i a.m e (omega arith) (omega arith) _ _ c.length_within-fits.result c.times_of-times.result
          refl refl c.length_within-fits.ensures (rw y at c.times_of-times.ensures) l.k l.out c.write_range.new.out (rw z at l.invariant.1) c.in_ok-k.k (rw c.in_ok-k.was at c.write_range.ensures)),
    )

pub returns : goal.returns
returns c =
    let a = c.args in
    let l = c.loop-i in
    let z : a.m - a.missed - l.i ≡ suc a.m - suc a.m = omega arith in
    sym (put_end a.n a.terms.protein a.starts.now (weight_at a.level.now (suc a.missed)) a.terms.minimum a.terms.maximum a.missed l.i a.m (suc a.m) l.k l.out (omega arith)) ∙ (rw z at l.invariant.1)
