-- `link` meets its contract: one law for each way out. Assumes nothing.
use native.Mathlib.Omega.{arith}
use native.Mathlib.Nat.{min-le_left, min-le_right}
use Prim.Native.Nat.{◌/◌}
use lib.ListN.{length}
use Rattle.enzyme_cuts.specs.Cutting.{range}
use Rattle.enzyme_list.specs.OfferLaws.{came_full, place_of_range, came_kept}
use Rattle.enzyme_list.proofs.offering.link.Goals as goal

pub returns-then-room_for-count : goal.returns-then-room_for-count
returns-then-room_for-count c = let a = c.args in
    came_full a.letters.now a.terms (range a.a a.e a.missed a.semi) a.times a.count a.head a.full a.out.now c.requires.0 c.requires.4 c.requires.3 a.prev c.requires.5 c.requires.6 (omega arith)

pub insert-first-requires : goal.insert-first-requires
insert-first-requires c = let a = c.args in
    let k = c.requires.0.fits in
    let l = c.room_for.ensures in
    let f = c.if-room_for-count.false in
    let m = min-le_left (length a.out.now / 20) 1048576 in
    let u = min-le_right (length a.out.now / 20) 1048576 in
    (omega arith, omega arith, c.requires.0.small, c.requires.1, c.requires.2, place_of_range a.letters.now a.terms (range a.a a.e a.missed a.semi) a.times a.count a.head a.full a.out.now c.requires.0 c.requires.4 c.requires.3 a.prev c.requires.5 c.requires.6)

pub returns : goal.returns
returns c = let a = c.args in
    came_kept a.letters.now a.terms (range a.a a.e a.missed a.semi) a.times a.count a.head a.full a.out.now c.requires.0 c.requires.4 c.requires.3 a.prev c.requires.5 c.requires.6 (omega arith) c.requires.1 c.requires.2 _ _ c.insert-first.ensures
