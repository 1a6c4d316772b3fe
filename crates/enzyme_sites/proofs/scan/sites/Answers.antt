-- `sites` meets its contract. Assumes nothing.
use Prim.Native.Nat.{◌+◌, ◌≤◌, ◌<◌}
use mathlib.Core.Path.{◌≡◌, refl, sym, ◌∙◌}
use lib.ListN.{length, set, length-set}
use native.Mathlib.Omega.{arith}
use Rattle.enzyme_sites.specs.ScanningLaws.{scanned_none, scanned_on, scanned_cut, scanned_end, ends_last}
use Rattle.enzyme_sites.proofs.scan.sites.Goals.{After-loop-j, Then-ends_at, then-ends_at, else-ends_at}
use Rattle.enzyme_sites.proofs.scan.sites.Goals as goal

-- there is room for one site more
few : (c : Then-ends_at) → c.loop-j.m + 1 < length c.args.letters.now
few c = omega (arith, c.loop-j.invariant.1.few)

room : (c : Then-ends_at) → c.loop-j.m + 1 < length c.loop-j.starts
room c = omega (arith, few c, c.requires.1, c.loop-j.invariant.0, length-set c.args.starts.now 0 0)

few_last : (c : After-loop-j) → c.loop-j.m + 1 ≤ length c.args.letters.now
few_last c = omega (arith, c.loop-j.invariant.1.few)

room_last : (c : After-loop-j) → c.loop-j.m + 1 < length c.loop-j.starts
room_last c = omega (arith, few_last c, c.requires.1, c.loop-j.invariant.0, length-set c.args.starts.now 0 0)

pub shape_of-starts-then-n-eq0 : goal.shape_of-starts-then-n-eq0
shape_of-starts-then-n-eq0 c = length-set c.args.starts.now 0 0

pub returns-then-n-eq0 : goal.returns-then-n-eq0
returns-then-n-eq0 c = let a = c.args in
    scanned_end a.knife a.letters.now _ 0 0 (omega arith) (omega (arith, c.requires.1, length-set a.starts.now 0 0)) (scanned_none a.knife a.letters.now a.starts.now (omega arith))

pub loop-j-init : goal.loop-j-init
loop-j-init c = let a = c.args in (refl, scanned_none a.knife a.letters.now a.starts.now (omega arith))

pub overflow_cast-place : goal.overflow_cast-place
overflow_cast-place c = omega (arith, c.requires)

pub overflow_add-m : goal.overflow_add-m
overflow_add-m c = omega (arith, c.requires, room (goal.at.overflow_add-m c).Then-ends_at)

pub offset_bounds-starts-m : goal.offset_bounds-starts-m
offset_bounds-starts-m c = omega (arith, c.requires, few (goal.at.offset_bounds-starts-m c).Then-ends_at)

pub bounds-starts-m : goal.bounds-starts-m
bounds-starts-m c = room (goal.at.bounds-starts-m c).Then-ends_at

pub loop-j-preserved : goal.loop-j-preserved
loop-j-preserved c =
    let a = c.args in
    let l = c.loop-j in
    let r : l.m + 1 < length l.starts = omega (arith, l.invariant.1.few, c.requires.1, l.invariant.0, length-set a.starts.now 0 0) in
    elim c.if-ends_at.branch [
      | then-ends_at w ↦ rw (w.starts-is, w.m-is) (length-set l.starts (l.m + 1) (l.j + 1) ∙ l.invariant.0, scanned_cut a.knife a.letters.now l.starts l.m l.j (omega arith) (sym c.ends_at.ensures ∙ w.if-ends_at.true) l.invariant.1 r)
      | else-ends_at w ↦ rw (w.starts-is, w.m-is) (l.invariant.0, scanned_on a.knife a.letters.now l.starts l.m l.j (omega arith) (sym c.ends_at.ensures ∙ w.if-ends_at.false) l.invariant.1)
    ]

pub overflow_add-m-2 : goal.overflow_add-m-2
overflow_add-m-2 c = omega (arith, c.requires, room_last (goal.at.overflow_add-m-2 c).After-loop-j)

pub offset_bounds-starts-m-2 : goal.offset_bounds-starts-m-2
offset_bounds-starts-m-2 c = omega (arith, c.requires, few_last (goal.at.offset_bounds-starts-m-2 c).After-loop-j)

pub bounds-starts-m-2 : goal.bounds-starts-m-2
bounds-starts-m-2 c = room_last (goal.at.bounds-starts-m-2 c).After-loop-j

pub shape_of-starts : goal.shape_of-starts
shape_of-starts c = let a = c.args in let l = c.loop-j in length-set l.starts (l.m + 1) (length a.letters.now) ∙ l.invariant.0 ∙ length-set a.starts.now 0 0

pub returns : goal.returns
returns c =
    let a = c.args in
    let l = c.loop-j in
    let e : l.j + 1 ≡ length a.letters.now = omega arith in
    let d = scanned_cut a.knife a.letters.now l.starts l.m l.j (omega arith) (sym (ends_last a.knife a.letters.now l.j (omega arith) (omega arith))) l.invariant.1 (room_last (goal.at.returns c).After-loop-j) in
    rw e at (scanned_end a.knife a.letters.now (set l.starts (l.m + 1) (l.j + 1)) (l.m + 1) (l.j + 1) (omega arith) (omega (arith, c.requires.1, l.invariant.0, length-set a.starts.now 0 0, length-set l.starts (l.m + 1) (l.j + 1))) d)
