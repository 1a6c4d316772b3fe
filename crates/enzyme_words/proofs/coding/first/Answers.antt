-- `first` meets its contract. Assumes nothing.
use Prim.Native.Nat.{◌-◌, ◌+◌}
use mathlib.Core.Path.{◌≡◌}
use native.Mathlib.Omega.{arith}
use Rattle.enzyme_words.specs.WordLaws.{number_small, word-number-on}
use Rattle.enzyme_words.proofs.coding.first.Goals as goal

pub overflow_mul-w : goal.overflow_mul-w
overflow_mul-w c = omega (arith, number_small c.args.letters.now 0 c.loop-i.i (omega arith))

pub overflow_add-w : goal.overflow_add-w
overflow_add-w c = omega (arith, number_small c.args.letters.now 0 c.loop-i.i (omega arith))

pub loop-i-preserved : goal.loop-i-preserved
loop-i-preserved c =
    let l = c.loop-i in
    let e : l.i + 1 - 1 ≡ l.i = omega arith in
    word-number-on c.args.letters.now 0 (l.i + 1) (omega arith) l.i l.w c.digit.result (omega arith) (rw e l.invariant) c.digit.ensures
