-- `spell` meets its contract: the first i letters stand. Assumes nothing.
use native.Mathlib.Omega.{arith}
use Prim.Native.Nat.{◌/◌}
use native.Mathlib.Nat.{min-le_left}
use mathlib.Core.Path.{◌≡◌}
use lib.ListN.{length}
use Rattle.letters.specs.Reversal.{letters_of}
use Rattle.letters.specs.ReversalLaws.{length-letters}
use Rattle.enzyme_reversal.specs.SpellingLaws.{spelling_start, spelling_turn, spelling_full, spelling_done}
use Rattle.enzyme_reversal.proofs.spelling.spell.Goals as goal

pub loop-i-init : goal.loop-i-init
loop-i-init c = (c.room_for-room.ensures, spelling_start c.args.out.now (letters_of c.args.decoy c.args.part.now))

pub returns-then-room-i : goal.returns-then-room-i
returns-then-room-i c = let a = c.args in
    let l = c.loop-i in
    let n = length-letters a.decoy a.part.now in
    spelling_full a.out.now (letters_of a.decoy a.part.now) l.i l.out l.invariant.1 (omega arith) (omega (arith, c.if-room-i.true, l.invariant.0))

pub bounds-out-i : goal.bounds-out-i
bounds-out-i c = let l = c.loop-i in omega (arith, l.invariant.0, min-le_left (length c.args.out.now / 1) 65536)

pub loop-i-preserved : goal.loop-i-preserved
loop-i-preserved c = let a = c.args in
    let l = c.loop-i in
    let n = length-letters a.decoy a.part.now in
    let t = spelling_turn a.out.now (letters_of a.decoy a.part.now) l.i l.out l.invariant.1 (omega arith) (omega (arith, c.if-room-i.false, l.invariant.0)) in
    (l.invariant.0, rw c.letter_at.ensures t)

pub returns : goal.returns
returns c = let a = c.args in
    let l = c.loop-i in
    let e : l.i ≡ length a.part.now = omega arith in
    rw (← e) (spelling_done a.out.now (letters_of a.decoy a.part.now) l.i l.out l.invariant.1 (omega (arith, length-letters a.decoy a.part.now)))
