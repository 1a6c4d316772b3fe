-- `place_pairs` meets its contract: the first i pairs are placed. Assumes nothing.
use native.Mathlib.Omega.{arith}
use Rattle.protein_groups_place.specs.PlacingLaws.{laid_none, laid_more}
use Rattle.protein_groups_place.proofs.placing.place_pairs.Goals as goal

pub loop-i-init : goal.loop-i-init
loop-i-init c = let a = c.args in laid_none a.pairs.now a.flags.now a.a a.n a.w.now

pub place_pair-requires : goal.place_pair-requires
place_pair-requires c = let p = c.requires in let l = c.loop-i in (omega arith, p.0, omega (arith, l.invariant.same_length, p.1), p.2 l.i (omega arith))

pub loop-i-preserved : goal.loop-i-preserved
loop-i-preserved c =
    let a = c.args in
    let l = c.loop-i in
    rw c.place_pair.ensures (laid_more a.pairs.now a.flags.now a.a a.n l.i a.w.now l.w (omega arith) c.requires.1 l.invariant)
